-- What scrolling a window and drawing its edge leave at each address of window memory.
use Rattle.std.specs.Prelude.{ℕ, ◌+◌, ◌-◌, ◌*◌, Bool, cond, ◌||◌, List, slice_index_or}
use Rattle.cells.specs.Kinds.{Layer, Glyph}
use Rattle.areas.specs.Addresses.{area, in_span, in_rows}
use Rattle.areas.specs.declared.Area.{Area}
use Rattle.cell_memory.specs.Texts.{cells_for}
use Rattle.cell_memory.specs.Writing.{cell_at}

-- where the last row begins
abbrev pub last_row : Area → ℕ
last_row a = a.base + (a.height - 1) * a.pitch

-- each row but the last gets the cells of the next one, the last one blanks
abbrev pub scrolled : {C : Type 0} → Layer C → List C → Area → ℕ → C
scrolled l memory a x =
    cond (in_rows a.base a.pitch (a.height - 1) a.width x) (cell_at l memory (x + a.pitch))
    (cond (in_span (last_row a) a.width x) l.blank (cell_at l memory x))

-- the corners, the first and the last row, and the first and the last column of an area
abbrev pub either_end : ℕ → ℕ → ℕ → Bool
either_end from width x = in_span from 1 x || in_span (from + (width - 1)) 1 x

abbrev pub on_corner : Area → ℕ → Bool
on_corner a x = either_end a.base a.width x || either_end (last_row a) a.width x

abbrev pub on_end_row : Area → ℕ → Bool
on_end_row a x = in_span a.base a.width x || in_span (last_row a) a.width x

-- the first and the last row, as an area of two rows
abbrev pub end_rows : Area → Area
end_rows a = area a.base ((a.height - 1) * a.pitch) 2 a.width

-- of so many rows
abbrev pub on_side_column : Area → ℕ → ℕ → Bool
on_side_column a rows x = in_rows a.base a.pitch rows 1 x || in_rows (a.base + (a.width - 1)) a.pitch rows 1 x

-- the cell that a character of one column makes
abbrev pub cell_of : {C : Type 0} → Layer C → Glyph C → ℕ → ℕ → C
cell_of l g attributes character = slice_index_or (cells_for g attributes character) 0 l.blank

-- one cell at each of some addresses
abbrev pub drawn : {C : Type 0} → Layer C → List C → (ℕ → Bool) → C → ℕ → C
drawn l memory p c x = cond (p x) c (cell_at l memory x)

-- "+" 43 at the corners, "-" 45 in the end rows, "|" 124 in the side columns
abbrev pub edged : {C : Type 0} → Layer C → Glyph C → List C → Area → ℕ → ℕ → C
edged l g memory a attributes x =
    cond (on_corner a x) (cell_of l g attributes 43)
    (cond (on_end_row a x) (cell_of l g attributes 45) (drawn l memory (on_side_column a a.height) (cell_of l g attributes 124) x))

-- the whole edge of an area
abbrev pub on_edge : Area → ℕ → Bool
on_edge a x = on_end_row a x || on_side_column a a.height x
