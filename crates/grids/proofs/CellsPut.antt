-- The cells that are put at once: at least one, and how they are written over a part of a row.
use Rattle.std.proofs.Common.{◌≡◌, ℕ, zero, suc, ◌+◌, ◌<◌, List, [], ◌∷◌, ◌++◌, length, take, set, Option, Some, None, refl, ap, ◌∙◌, add-one, arith}
use borrow.Rule.Slice.PartMut.{put_mid}
use Rattle.std.proofs.lemmas.List.{set_split, drop-drop}
use Rattle.grids.specs.CellsPut.{with_second}

pub some_cell : {C : Type 0} (c : C) (second : Option C) → 0 < length (with_second c second)
some_cell c None = omega arith
some_cell c (Some d) = omega arith

-- one write
pub one_write : {C : Type 0} (row : List C) (from : ℕ) (c : C) → from < length row → set row from c ≡ put_mid from 1 row (c ∷ [])
one_write row from c h = set_split row from c h ∙ ap (λ (xs : List _). take from row ++ c ∷ xs) (rw (drop-drop 1 from row, add-one))

-- two writes side by side
two_in_row : {C : Type 0} (row : List C) (from : ℕ) (c d : C) → suc from < length row → set (set row from c) (suc from) d ≡ put_mid from 2 row (c ∷ d ∷ [])
two_in_row [] from c d h = absurd (omega arith)
two_in_row (x ∷ []) from c d h = absurd (omega arith)
two_in_row (x ∷ y ∷ row) zero c d h = refl
two_in_row {C} (x ∷ y ∷ row) (suc from) c d h = ap (λ (xs : List C). x ∷ xs) (two_in_row (y ∷ row) from c d (omega arith))

pub two_writes : {C : Type 0} (row : List C) (from : ℕ) (c d : C) → from + 1 < length row → set (set row from c) (from + 1) d ≡ put_mid from 2 row (c ∷ d ∷ [])
two_writes row from c d h = rw add-one (two_in_row row from c d (omega arith))
