-- The characters that show a row, one cell after another.
use Rattle.std.proofs.Common.{◌≡◌, ℕ, List, [], ◌∷◌, Option, refl, arith}
use Rattle.std.specs.List.{slice_get, filter_map}
use Rattle.std.specs.Option.{option_to_list}
use Rattle.std.proofs.lemmas.Grind.{common_steps}
use Rattle.cells.specs.Kinds.{Glyph}
use Rattle.pick_list.specs.Showing.{shown_cell, shown_row}

pub first_of : (o : Option ℕ) (cs : List ℕ) → option_to_list o ≡ cs → o ≡ slice_get cs 0
first_of o cs e = grind (arith, common_steps)

module _ {C : Type 0} (g : Glyph C) (letter : C → ℕ) where
  -- the one character that shows a cell, if any does
  abbrev pub shown_first : C → Option ℕ
  shown_first c = slice_get (shown_cell g letter c) 0

  pub shown_one_by_one : (row : List C) → filter_map shown_first row ≡ shown_row g letter row
  shown_one_by_one [] = refl
  shown_one_by_one (c ∷ row) = let rest = shown_one_by_one row in grind (arith, common_steps)
