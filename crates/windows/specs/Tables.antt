-- The windows of a screen: their areas in the order of their numbers, the cells taken, and the length of the window memory.
use Rattle.std.specs.Prelude.{ℕ, ◌+◌, ◌*◌, Bool, List, [], ◌∷◌, ◌++◌, length, take, nat_lt, slice_index_or}
use Rattle.places.specs.declared.Size.{Size}
use Rattle.places.specs.declared.Rectangle.{Rectangle}
use Rattle.areas.specs.Addresses.{area, part_of}
use Rattle.areas.specs.declared.Area.{Area}
use Rattle.windows.specs.declared.records.Windows.{Windows}

pub record Table : Type 0 where
  pub windows : List Area
  pub taken : ℕ
  pub memory : ℕ

abbrev pub table_of : Windows → Table
table_of w = record { windows = take w.count w.areas; taken = w.taken; memory = w.memory }

-- no windows, over memory of that length
abbrev pub no_windows : ℕ → Table
no_windows memory = record { windows = []; taken = 0; memory = memory }

abbrev pub is_window : Table → ℕ → Bool
is_window t window = nat_lt window (length t.windows)

-- the area of a window; one that is not there has no rows and no columns
abbrev pub area_of : Table → ℕ → Area
area_of t window = slice_index_or t.windows window (area 0 0 0 0)

-- one window more: of cells after those taken, or of a part of a window
abbrev pub with_window : Table → Size → Table
with_window t z = record {
  windows = t.windows ++ area t.taken z.columns z.rows z.columns ∷ [];
  taken = t.taken + z.rows * z.columns;
  memory = t.memory;
}

abbrev pub with_part : Table → ℕ → Rectangle → Table
with_part t window p = record {
  windows = t.windows ++ part_of (area_of t window) p.top p.left p.height p.width ∷ [];
  taken = t.taken;
  memory = t.memory;
}
