-- The put rule on one row: what stands there after cells were put from a column on.
use Rattle.std.specs.Prelude.{ℕ, suc, ◌+◌, ◌-◌, Bool, false, cond, ◌&&◌, ◌||◌, List, map, length, Some, None, Option, nat_le, nat_lt, slice_index_or}
use Rattle.std.specs.List.{range_with_len}
use Rattle.cells.specs.Kinds.{Layer, Glyph}
use Rattle.cells.specs.Rows.{before, after}

-- is column j among the n columns from `from` on?
abbrev pub among : ℕ → ℕ → ℕ → Bool
among from n j = nat_le from j && nat_lt j (from + n)

-- a spot that holds a cell with that property
abbrev pub holds : {C : Type 0} → (C → Bool) → Option C → Bool
holds p None = false
holds p (Some c) = p c

-- the spot to the left of column j is overwritten and held a left half, of which j held the rest
abbrev pub loses_left : {C : Type 0} → Glyph C → List C → ℕ → ℕ → ℕ → Bool
loses_left g row from n j = among (suc from) n j && holds g.left (before row j)

-- the spot to the right of column j is overwritten and held a right half
abbrev pub loses_right : {C : Type 0} → Glyph C → List C → ℕ → ℕ → ℕ → Bool
loses_right g row from n j = among from n (suc j) && holds g.right (after row j)

-- the cell at column j after `new` was put from column `from` on: the new one where it was put;
-- the blank beside a half that was overwritten and its neighbour was not; else the cell as it was
abbrev pub put_at : {C : Type 0} → Layer C → Glyph C → List C → ℕ → List C → ℕ → C
put_at l g row from new j =
    cond (among from (length new) j) (slice_index_or new (j - from) l.blank)
    (cond (loses_left g row from (length new) j || loses_right g row from (length new) j) l.blank (slice_index_or row j l.blank))

unfoldable pub put_row : {C : Type 0} → Layer C → Glyph C → List C → ℕ → List C → List C
put_row l g row from new = map (put_at l g row from new) (range_with_len 0 (length row))
