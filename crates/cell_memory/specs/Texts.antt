-- The cells that a text makes.
use Rattle.std.specs.Prelude.{ℕ, List, [], ◌∷◌}
use Rattle.std.specs.List.{flat_map}
use Rattle.cells.specs.Kinds.{Glyph}
use Rattle.cells.specs.declared.kinds.Made.{Made}
use Rattle.cells.specs.declared.kinds.Made.TheVariants.{Nothing, Single, Pair, Singles}

-- the cells of what one character made
abbrev pub cells_in : {C : Type 0} → Made C → List C
cells_in Nothing = []
cells_in (Single c) = c ∷ []
cells_in (Pair c d) = c ∷ d ∷ []
cells_in (Singles c d) = c ∷ d ∷ []

-- the cells that a character with attributes makes
abbrev pub cells_for : {C : Type 0} → Glyph C → ℕ → ℕ → List C
cells_for g attributes character = cells_in (g.make character attributes)

-- and those of a text, one character after another
abbrev pub cells_of : {C : Type 0} → Glyph C → ℕ → List ℕ → List C
cells_of g attributes text = flat_map (cells_for g attributes) text
