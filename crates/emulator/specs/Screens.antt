-- A screen as bytes leave it, and what each byte does to it.
use Rattle.std.specs.Prelude.{◌≡◌, ℕ, ◌+◌, ◌-◌, ◌<◌, min, cond, ◌&&◌, List, [], ◌∷◌, length, Some, None, Option, nat_le, nat_lt}
use Rattle.cells.specs.declared.kinds.Made.{Made}
use Rattle.cells.specs.declared.kinds.Made.TheVariants.{Nothing as MadeNothing, Single as MadeSingle, Pair as MadePair, Singles as MadeSingles}
use Rattle.text_cells.specs.TextCells.{make, text_layer, text_glyph}
use Rattle.text_cells.specs.declared.TextCell.{TextCell}
use Rattle.grids.specs.Grids.{put_grid}
use Rattle.terminal.specs.Operations.{spot, moved_on}
use Rattle.places.specs.declared.Spot.{Spot}
use Rattle.reader.specs.Steps.{stepped}
use Rattle.reader.specs.declared.states.Action.{Action}
use Rattle.reader.specs.declared.states.Action.TheVariants.{Show, Right, To, SetPen}
use Rattle.reader.specs.declared.states.State.{State}

-- rows and columns, the grid, the cursor at a spot or unknown, the attributes of the characters to come, and where the reader stands
pub record Screen : Type 0 where
  pub rows : ℕ
  pub columns : ℕ
  pub grid : List (List TextCell)
  pub cursor : Option Spot
  pub pen : ℕ
  pub state : State

abbrev pub with_cursor : Option Spot → Screen → Screen
with_cursor cursor s = record {
  rows = s.rows;
  columns = s.columns;
  grid = s.grid;
  cursor = cursor;
  pen = s.pen;
  state = s.state;
}

abbrev pub with_pen : ℕ → Screen → Screen
with_pen pen s = record {
  rows = s.rows;
  columns = s.columns;
  grid = s.grid;
  cursor = s.cursor;
  pen = pen;
  state = s.state;
}

abbrev pub with_state : State → Screen → Screen
with_state state s = record {
  rows = s.rows;
  columns = s.columns;
  grid = s.grid;
  cursor = s.cursor;
  pen = s.pen;
  state = state;
}

-- a move to the right stops at the last column; an unknown cursor stays so
abbrev pub right_by : ℕ → Option Spot → ℕ → Option Spot
right_by columns None n = None
right_by columns (Some s) n = Some (spot s.row (min (s.column + n) (columns - 1)))

-- a move to a row and a column, counted from 1, stops at the last ones
abbrev pub moved_to : ℕ → ℕ → ℕ → ℕ → Option Spot
moved_to rows columns row column =
    cond (nat_lt 0 rows && nat_lt 0 columns) (Some (spot (min (row - 1) (rows - 1)) (min (column - 1) (columns - 1)))) None

-- cells are put at the cursor by the put rule; they are dropped if the cursor is unknown or they reach past the last column
abbrev pub put_here : Screen → Option Spot → List TextCell → Screen
put_here s None new = s
put_here s (Some at) new = cond (nat_le (at.column + length new) s.columns) (record {
  rows = s.rows;
  columns = s.columns;
  grid = put_grid text_layer text_glyph s.grid at.row at.column new;
  cursor = moved_on s.columns (Some at) (length new);
  pen = s.pen;
  state = s.state;
}) s

-- what a character makes is put; one of width 0 makes nothing
abbrev pub shows : Screen → Made TextCell → Screen
shows s MadeNothing = s
shows s (MadeSingle c) = put_here s s.cursor (c ∷ [])
shows s (MadePair c d) = put_here s s.cursor (c ∷ d ∷ [])
shows s (MadeSingles c d) = s

-- what a completed character or sequence does
abbrev pub acts : Screen → Action → Screen
acts s (Show character) = shows s (make character s.pen)
acts s (Right n) = with_cursor (right_by s.columns s.cursor n) s
acts s (To row column) = with_cursor (moved_to s.rows s.columns row column) s
acts s (SetPen attributes) = with_pen attributes s

-- a byte that completes nothing does nothing
abbrev pub does : Screen → Option Action → Screen
does s None = s
does s (Some action) = acts s action

-- one byte
abbrev pub read_byte : Screen → ℕ → Screen
read_byte s byte = does (with_state (stepped s.state byte).0 s) (stepped s.state byte).1

-- bytes one after another
abbrev pub read_bytes : Screen → List ℕ → Screen
read_bytes s [] = s
read_bytes s (byte ∷ bytes) = read_bytes (read_byte s byte) bytes

-- a known cursor is on the grid
abbrev pub CursorOnGrid : Screen → Type 0
CursorOnGrid s = (at : Spot) → s.cursor ≡ Some at → (at.row < s.rows) × (at.column < s.columns)

-- bytes that complete no character and no sequence
abbrev pub CompletesNothing : State → List ℕ → Type 0
CompletesNothing state [] = Unit {0}
CompletesNothing state (byte ∷ bytes) = ((stepped state byte).1 ≡ None) × CompletesNothing (stepped state byte).0 bytes
