-- What a pane means, by what the terminal below means.
use Rattle.std.specs.Prelude.{ℕ, ◌+◌, ◌-◌, Bool, cond, ◌&&◌, List, [], map, take, drop, Some, None, Option, nat_le, nat_lt}
use Rattle.terminal.specs.Meanings.{Meaning}
use Rattle.terminal.specs.Operations.{spot}
use Rattle.places.specs.declared.Spot.{Spot}
use Rattle.places.specs.declared.Rectangle.{Rectangle}

-- the rectangle is not empty and lies inside rows × columns
abbrev pub fits_in : Rectangle → ℕ → ℕ → Bool
fits_in area rows columns =
    (nat_lt 0 area.height && nat_lt 0 area.width) && (nat_le (area.top + area.height) rows && nat_le (area.left + area.width) columns)

abbrev pub pane_fits : {C : Type 0} → Meaning C → Rectangle → Bool
pane_fits m area = fits_in area m.rows m.columns

-- the part of a grid inside the rectangle
abbrev pub part : {C : Type 0} → Rectangle → List (List C) → List (List C)
part area grid = map (λ row. take area.width (drop area.left row)) (take area.height (drop area.top grid))

-- a spot inside `rows` rows and `columns` columns from the rectangle's corner on
abbrev pub inside : Rectangle → ℕ → ℕ → Spot → Bool
inside area rows columns s =
    (nat_le area.top s.row && nat_lt s.row (area.top + rows)) && (nat_le area.left s.column && nat_lt s.column (area.left + columns))

-- the cursor counted from the rectangle's corner, unknown outside
abbrev pub seen_from : Rectangle → ℕ → ℕ → Option Spot → Option Spot
seen_from area rows columns None = None
seen_from area rows columns (Some s) =
    cond (inside area rows columns s) (Some (spot (s.row - area.top) (s.column - area.left))) None

abbrev pub pane_rows : {C : Type 0} → Meaning C → Rectangle → ℕ
pane_rows m area = cond (pane_fits m area) area.height 0

abbrev pub pane_columns : {C : Type 0} → Meaning C → Rectangle → ℕ
pane_columns m area = cond (pane_fits m area) area.width 0

-- the rectangle as a terminal; if it is unfit it has no rows and no columns
abbrev pub pane_of : {C : Type 0} → Meaning C → Rectangle → Meaning C
pane_of m area = record {
  rows = pane_rows m area;
  columns = pane_columns m area;
  grid = cond (pane_fits m area) (part area m.grid) [];
  cursor = seen_from area (pane_rows m area) (pane_columns m area) m.cursor;
  room = m.room;
  need = m.need;
  tally = m.tally;
}
