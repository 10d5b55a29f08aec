-- The cells that are put at once, as a list, and what is blanked beside them.
use Rattle.std.specs.Prelude.{ℕ, ◌-◌, cond, ◌&&◌, List, [], ◌∷◌, length, Option, Some, None, nat_lt, slice_set}
use Rattle.std.specs.List.{slice_get}
use Rattle.cells.specs.Kinds.{Layer, Glyph}
use Rattle.put_rule.specs.Putting.{holds}
use Rattle.grids.specs.declared.putting.Cells.{Cells}

abbrev pub with_second : {C : Type 0} → C → Option C → List C
with_second c None = c ∷ []
with_second c (Some d) = c ∷ d ∷ []

abbrev pub cells_in : {C : Type 0} → Cells C → List C
cells_in new = with_second new.0 new.1

-- the half before the columns, where they begin with its other half
abbrev pub blanked_before : {C : Type 0} → Layer C → Glyph C → List C → ℕ → List C
blanked_before l g row from =
    cond (nat_lt 0 from && holds g.right (slice_get row from)) (slice_set row (from - 1) l.blank) row

-- and the half behind them, where they end with its other half
abbrev pub blanked_beside : {C : Type 0} → Layer C → Glyph C → List C → ℕ → ℕ → List C
blanked_beside l g row from end =
    cond (nat_lt end (length row) && holds g.left (slice_get row (end - 1))) (slice_set (blanked_before l g row from) end l.blank) (blanked_before l g row from)
