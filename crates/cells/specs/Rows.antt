-- The mended row, column by column.
use Rattle.std.specs.Prelude.{◌≡◌, ℕ, zero, suc, Bool, false, cond, ◌&&◌, ◌||◌, List, map, length, Some, None, Option, slice_index_or}
use Rattle.std.specs.List.{slice_get, range_with_len}
use Rattle.cells.specs.Kinds.{Layer, Glyph}

-- what stands to the left of a column, none left of the first
abbrev pub before : {C : Type 0} → List C → ℕ → Option C
before row zero = None
before row (suc column) = slice_get row column

-- what stands to the right of a column, none right of the last
abbrev pub after : {C : Type 0} → List C → ℕ → Option C
after row column = slice_get row (suc column)

-- two neighbouring spots hold a left half and the right half that belongs to it
abbrev pub paired : {C : Type 0} → Glyph C → Option C → Option C → Bool
paired g None right = false
paired g (Some c) None = false
paired g (Some c) (Some d) = g.belong c d

-- a drawable single stays, a left half stays directly before its right half, and that right half stays with it
abbrev pub stays : {C : Type 0} → Glyph C → Option C → C → Option C → Bool
stays g left c right = (g.drawable c && g.single c) || (paired g (Some c) right || paired g left (Some c))

-- every other cell is the blank
abbrev pub mended_cell : {C : Type 0} → Layer C → Glyph C → Option C → C → Option C → C
mended_cell l g left c right = cond (stays g left c right) c l.blank

-- the mended cell at a column of a row
abbrev pub mended_at : {C : Type 0} → Layer C → Glyph C → List C → ℕ → C
mended_at l g row column =
    mended_cell l g (before row column) (slice_index_or row column l.blank) (after row column)

unfoldable pub mended : {C : Type 0} → Layer C → Glyph C → List C → List C
mended l g row = map (mended_at l g row) (range_with_len 0 (length row))

-- a row that mending leaves as it is
abbrev pub Whole : {C : Type 0} → Layer C → Glyph C → List C → Type 0
Whole l g row = mended l g row ≡ row

-- each cell of a mended row depends on its own raw cell and the two raw neighbours only
abbrev pub ByColumn : {C : Type 0} → Layer C → Glyph C → List C → List C → Type 0
ByColumn {C} l g row new =
    (column : ℕ) (c : C) → slice_get row column ≡ Some c → slice_get new column ≡ Some (mended_cell l g (before row column) c (after row column))
