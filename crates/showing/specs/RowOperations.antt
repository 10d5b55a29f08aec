-- The operations that show a row of cells.
use Rattle.std.specs.Prelude.{ℕ, cond, List, [], ◌∷◌}
use Rattle.cells.specs.Kinds.{Glyph}
use Rattle.terminal.specs.Operations.{Operation, Move, Put, PutPair}

-- from left to right, a cell that belongs with the next one as a pair with it, any other as a single
abbrev pub cell_operations : {C : Type 0} → Glyph C → List C → List (Operation C)
cell_operations g [] = []
cell_operations g (c ∷ []) = Put c ∷ []
cell_operations g (c ∷ d ∷ rest) =
    cond (g.belong c d) (PutPair c d ∷ cell_operations g rest) (Put c ∷ cell_operations g (d ∷ rest))

-- first a move to the row's start
abbrev pub row_operations : {C : Type 0} → Glyph C → ℕ → List C → List (Operation C)
row_operations g row cells = Move row 0 ∷ cell_operations g cells
