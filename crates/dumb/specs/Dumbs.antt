-- What a dumb terminal means, and the bytes that it sends.
use Rattle.std.specs.Prelude.{◌≡◌, ℕ, ◌+◌, Bool, cond, ◌&&◌, List, [], ◌∷◌, None, Option}
use Rattle.faults.specs.declared.Fault.{Fault}
use Rattle.byte_cells.specs.declared.ByteCell.{ByteCell}
use Rattle.places.specs.declared.Size.{Size}
use Rattle.put_rule.specs.Grids.{fits, rows_of}
use Rattle.lines.specs.Sending.{room_of}
use Rattle.terminal.specs.Sizes.{within, size_refusal as limited_refusal}
use Rattle.terminal.specs.declared.sizes.Limits.{Limits}
use Rattle.terminal.specs.Meanings.{Meaning}
use Rattle.terminal.specs.Operations.{Operation, Move, Put, PutPair}
use Rattle.terminal.specs.Devices.{usable, over_grid}
use Rattle.devices.specs.Shown.{Shown, shown_in}
use Rattle.devices.specs.declared.device.Device.{Device}
use Rattle.dumb.specs.declared.DumbFace.{DumbFace}

-- 1 to 24 rows, 1 to 80 columns
abbrev pub limits : Limits
limits = record { rows = 24; columns = 80 }

abbrev pub is_size : ℕ → ℕ → Bool
is_size rows columns = within limits.rows limits.columns rows columns

-- why a size is refused over memory of that many cells, in the order of the tests
abbrev pub size_refusal : ℕ → ℕ → ℕ → Option Fault
size_refusal rows columns cells = limited_refusal limits.rows limits.columns rows columns cells

-- the check accepts the size over that memory
abbrev pub accepted : ℕ → ℕ → List ByteCell → Bool
accepted rows columns cells = is_size rows columns && fits rows columns cells

abbrev pub is_usable : DumbFace → Bool
is_usable f = usable is_size f.grid

-- what it shows: its grid and its cursor, nothing if its size is refused
abbrev pub shown_on : DumbFace → Shown ByteCell
shown_on f = shown_in (over_grid (is_usable f) f.grid f.cursor 0 0 0)

-- no operation takes more than four bytes
abbrev pub dumb_of : Device DumbFace → Meaning ByteCell
dumb_of d = over_grid (is_usable d.face) d.face.grid d.face.cursor (room_of d.line) 4 d.tally

-- the meaning of a new one over those cells: nothing sent, no cell put, the cursor unknown
abbrev pub new_meaning : List ByteCell → ℕ → ℕ → ℕ → Meaning ByteCell
new_meaning cells rows columns room = record {
  rows = cond (accepted rows columns cells) rows 0;
  columns = cond (accepted rows columns cells) columns 0;
  grid = cond (accepted rows columns cells) (rows_of rows columns cells) [];
  cursor = None;
  room = room;
  need = 4;
  tally = 0;
}

abbrev pub first_shown : List ByteCell → Size → Shown ByteCell
first_shown cells size = shown_in (new_meaning cells size.rows size.columns 0)

-- the memory and the size that were handed in, and no cursor
pub record IsNew (f : DumbFace) (memory : List ByteCell) (handed : Size) : Type 0 where
  pub cells : f.grid.cells.now ≡ memory
  pub size : f.grid.size ≡ handed
  pub cursor : f.cursor ≡ None

-- ESC, "=", the row and the column, each from 32 on
abbrev pub move_bytes : ℕ → ℕ → List ℕ
move_bytes row column = 0x1B ∷ 0x3D ∷ (row + 32) ∷ (column + 32) ∷ []

-- a cell is its byte; a pair is never sent
abbrev pub bytes_of : DumbFace → Operation ByteCell → List ℕ
bytes_of f (Move row column) = move_bytes row column
bytes_of f (Put c) = c.byte ∷ []
bytes_of f (PutPair c d) = []

-- nothing is told of the face but what it shows: no device of its own reads the bytes
abbrev pub ReadsAny : DumbFace → List ℕ → DumbFace → Type 0
ReadsAny f bytes g = Unit {0}
