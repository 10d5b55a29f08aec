-- Which addresses an area has.
use Rattle.std.specs.Prelude.{ℕ, zero, suc, ◌+◌, ◌-◌, ◌*◌, Bool, false, ◌&&◌, ◌||◌, nat_le, nat_lt}
use Rattle.areas.specs.declared.Area.{Area}

-- the address of a row and a column of an area
abbrev pub address : Area → ℕ → ℕ → ℕ
address a row column = a.base + row * a.pitch + column

-- is an address among the n from `from` on?
abbrev pub in_span : ℕ → ℕ → ℕ → Bool
in_span from n x = nat_le from x && nat_lt x (from + n)

-- is it in one of the rows of an area: the first, or one further on by the pitch?
unfoldable pub in_rows : ℕ → ℕ → ℕ → ℕ → ℕ → Bool
in_rows base pitch zero width x = false
in_rows base pitch (suc height) width x = in_span base width x || in_rows (base + pitch) pitch height width x

abbrev pub in_area : Area → ℕ → Bool
in_area a x = in_rows a.base a.pitch a.height a.width x

abbrev pub area : ℕ → ℕ → ℕ → ℕ → Area
area base pitch height width = record { base = base; pitch = pitch; height = height; width = width }

-- a run of cells of one row
abbrev pub row_part : Area → ℕ → ℕ → ℕ → Area
row_part a row column n = area (address a row column) a.pitch 1 n

-- a rectangle of an area
abbrev pub part_of : Area → ℕ → ℕ → ℕ → ℕ → Area
part_of a row column height width = area (address a row column) a.pitch height width

-- does a rectangle lie inside an area?
abbrev pub holds_part : Area → ℕ → ℕ → ℕ → ℕ → Bool
holds_part a row column height width = nat_le (row + height) a.height && nat_le (column + width) a.width

-- no side is 0, no row reaches into the next, and the last cell lies below `end`
abbrev pub ends_below : ℕ → Area → Bool
ends_below end a =
    ((nat_lt 0 a.height && nat_lt 0 a.width) && nat_le a.width a.pitch) && nat_le (a.base + (a.height - 1) * a.pitch + a.width) end
