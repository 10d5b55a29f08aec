-- The screen that an emulator holds; on memory that does not fit its size it has no rows and no columns.
use Rattle.std.specs.Prelude.{◌≡◌, false, cond, List, [], length, None}
use Rattle.text_cells.specs.declared.TextCell.{TextCell}
use Rattle.grids.specs.Grids.{fits, rows_of}
use Rattle.reader.specs.declared.states.State.TheVariants.{Plain}
use Rattle.grids.specs.GridViews.{fitting, height, width, grid_rows}
use Rattle.grids.specs.declared.grids.Grid.{Grid}
use Rattle.places.specs.declared.Size.{Size}
use Rattle.terminal.specs.Devices.{known}
use Rattle.emulator.specs.Screens.{Screen}
use Rattle.emulator.specs.declared.Emulator.{Emulator}

abbrev pub screen_of : Emulator → Screen
screen_of e = record {
  rows = height e.grid;
  columns = width e.grid;
  grid = grid_rows e.grid;
  cursor = known (height e.grid) (width e.grid) e.cursor;
  pen = e.pen;
  state = e.state;
}

-- a new emulator's: the grid as found, the cursor unknown, no attributes, between characters
abbrev pub first_screen : List TextCell → Size → Screen
first_screen cells size = record {
  rows = cond (fits size.rows size.columns cells) size.rows 0;
  columns = cond (fits size.rows size.columns cells) size.columns 0;
  grid = cond (fits size.rows size.columns cells) (rows_of size.rows size.columns cells) [];
  cursor = None;
  pen = 0;
  state = Plain;
}

-- what reading leaves of the grid that was handed in: its size, the length of its memory, and all of that memory where the size does not fit it
pub record Kept (t u : Grid TextCell) : Type 0 where
  pub same_rows : u.size.rows ≡ t.size.rows
  pub same_columns : u.size.columns ≡ t.size.columns
  pub same_length : length u.cells.now ≡ length t.cells.now
  pub unfit : fitting t ≡ false → u.cells.now ≡ t.cells.now
