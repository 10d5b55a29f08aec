-- The touched range of a row: the smallest range of columns that holds what was touched, widened by one column to either side.
use Rattle.std.specs.Prelude.{ℕ, zero, suc, min, max, Bool, true, false, ◌&&◌, ◌||◌, List, map, length, Some, None, Option, nat_le, nat_lt, slice_index_or}
use Rattle.std.specs.List.{range_with_len}
use Rattle.cells.specs.Widths.{within}

-- the first and the last column
abbrev pub Range : Type 0
Range = ℕ × ℕ

-- does a range hold a column? None holds none
abbrev pub inside : Option Range → ℕ → Bool
inside None column = false
inside (Some r) column = within r.0 r.1 column

-- does a range lie in a row of that many columns?
abbrev pub range_fits : ℕ → Option Range → Bool
range_fits columns None = true
range_fits columns (Some r) = nat_le r.0 r.1 && nat_lt r.1 columns

-- a column is near a spot that is hit: that spot, or the one to its left or right
abbrev pub hit_before : (ℕ → Bool) → ℕ → Bool
hit_before hit zero = false
hit_before hit (suc column) = hit column

abbrev pub near : (ℕ → Bool) → ℕ → Bool
near hit column = hit_before hit column || (hit column || hit (suc column))

-- a range that is to hold one column more, past its last, if that is asked for
abbrev pub grown : Bool → ℕ → Option Range → Option Range
grown false column r = r
grown true column None = Some (column, column)
grown true column (Some r) = Some (r.0, column)

-- the smallest range that holds each of the first n columns at which p holds
unfoldable pub smallest : (ℕ → Bool) → ℕ → Option Range
smallest p zero = None
smallest p (suc n) = grown (p n) n (smallest p n)

-- the range of a row of that many columns once spots of it were hit
abbrev pub touched_row : ℕ → Option Range → (ℕ → Bool) → Option Range
touched_row columns old hit = smallest (λ column. inside old column || near hit column) columns

-- and of every row: `hit` says of a row and a column whether that spot was hit
unfoldable pub touch : ℕ → List (Option Range) → (ℕ → ℕ → Bool) → List (Option Range)
touch columns ranges hit = map (λ row. touched_row columns (slice_index_or ranges row None) (hit row)) (range_with_len 0 (length ranges))

-- a range joined with the columns from low to high
abbrev pub joined_range : Option Range → ℕ → ℕ → Range
joined_range None low high = (low, high)
joined_range (Some r) low high = (min r.0 low, max r.1 high)
