-- A grid as its rows, over memory that holds them one after another.
use Rattle.std.specs.Prelude.{ℕ, zero, suc, ◌*◌, Bool, List, [], ◌∷◌, length, take, drop, ◌==◌, slice_index_or, slice_set}
use Rattle.cells.specs.Kinds.{Layer, Glyph}
use Rattle.put_rule.specs.Putting.{put_row}

-- the first rows of the memory, each of that many columns
unfoldable pub rows_of : {C : Type 0} → ℕ → ℕ → List C → List (List C)
rows_of zero columns cells = []
rows_of (suc rows) columns cells = take columns cells ∷ rows_of rows columns (drop columns cells)

-- does the memory hold just the rows and columns?
abbrev pub fits : {C : Type 0} → ℕ → ℕ → List C → Bool
fits rows columns cells = length cells == rows * columns

-- a row of a grid; a row that is not there is empty
abbrev pub row_at : {C : Type 0} → List (List C) → ℕ → List C
row_at grid row = slice_index_or grid row []

-- the grid after cells were put into one row from a column on
abbrev pub put_grid : {C : Type 0} → Layer C → Glyph C → List (List C) → ℕ → ℕ → List C → List (List C)
put_grid l g grid row from new = slice_set grid row (put_row l g (row_at grid row) from new)
