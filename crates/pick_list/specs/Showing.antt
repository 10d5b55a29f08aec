-- The characters that show a row of cells.
use Rattle.std.specs.Prelude.{◌≡◌, ℕ, ◌<◌, ◌≤◌, true, cond, ◌⊎◌, List, [], ◌∷◌}
use Rattle.std.specs.List.{flat_map}
use Rattle.cells.specs.Kinds.{Glyph}

-- a number that a character of a text has
abbrev pub IsScalar : ℕ → Type 0
IsScalar c = (c < 55296) ⊎ ((57344 ≤ c) × (c ≤ 1114111))

module _ {C : Type 0} (g : Glyph C) (letter : C → ℕ) where
  -- every drawable cell's letter is such a number
  abbrev pub HasCharacters : Type 0
  HasCharacters = (c : C) → g.drawable c ≡ true → IsScalar (letter c)

  -- a drawable single or left half shows its character, a drawable right half nothing, any other cell a question mark
  abbrev pub shown_cell : C → List ℕ
  shown_cell c = cond (g.drawable c) (cond (g.right c) [] (letter c ∷ [])) (63 ∷ [])

  abbrev pub shown_row : List C → List ℕ
  shown_row row = flat_map shown_cell row
