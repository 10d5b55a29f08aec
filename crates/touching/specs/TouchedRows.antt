-- The touched rows of a screen, as a list of ranges.
use Rattle.std.specs.Prelude.{◌≡◌, ℕ, ◌+◌, Bool, ◌&&◌, List, take, Option, ◌==◌, nat_le, nat_lt}
use Rattle.cells.specs.Widths.{within}
use Rattle.ranges.specs.Ranges.{Range, touch}
use Rattle.touching.specs.declared.records.Touched.{Touched}

-- each row's range or none, from the top
abbrev pub ranges_of : Touched → List (Option Range)
ranges_of t = take t.size.rows t.ranges

-- the spots of a rectangle
abbrev pub in_rectangle : ℕ → ℕ → ℕ → ℕ → ℕ → ℕ → Bool
in_rectangle top left height width row column =
    (nat_le top row && nat_lt row (top + height)) && (nat_le left column && nat_lt column (left + width))

-- the spots of a run of columns of one row
abbrev pub in_run : ℕ → ℕ → ℕ → ℕ → ℕ → Bool
in_run at first last row column = row == at && within first last column

-- spots were touched, and the size is as before
pub record Touching (t u : Touched) (hit : ℕ → ℕ → Bool) : Type 0 where
  pub size : u.size ≡ t.size
  pub ranges : ranges_of u ≡ touch t.size.columns (ranges_of t) hit
