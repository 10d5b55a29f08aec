-- What the terminal means: what its emulator shows of the bytes that it sent.
use Rattle.std.specs.Prelude.{◌≡◌, ℕ, List}
use Rattle.lines.specs.Sending.{room_of}
use Rattle.text_cells.specs.declared.TextCell.{TextCell}
use Rattle.places.specs.declared.Size.{Size}
use Rattle.terminal.specs.Meanings.{Meaning}
use Rattle.terminal.specs.Operations.{Operation, Move, Put, PutPair}
use Rattle.devices.specs.Shown.{Shown}
use Rattle.devices.specs.declared.device.Device.{Device}
use Rattle.emulator.specs.Emulators.{screen_of, first_screen}
use Rattle.emulator.specs.Screens.{read_bytes}
use Rattle.ecma_bytes.specs.Bytes.{move_bytes, put_bytes}
use Rattle.ecma48.specs.Sizes.{shown_on, over_screen}
use Rattle.ecma48.specs.declared.EcmaFace.{EcmaFace}

abbrev pub ecma_of : Device EcmaFace → Meaning TextCell
ecma_of t = over_screen (screen_of t.face.emulator) (room_of t.line) t.tally

abbrev pub shown_by : EcmaFace → Shown TextCell
shown_by f = shown_on (screen_of f.emulator)

-- a new one shows the grid as found, with no known cursor
abbrev pub first_shown : List TextCell → Size → Shown TextCell
first_shown cells size = shown_on (first_screen cells size)

-- the memory and the size that were handed in, and the screen of a new emulator
pub record IsNew (f : EcmaFace) (memory : List TextCell) (handed : Size) : Type 0 where
  pub cells : f.emulator.grid.cells.now ≡ memory
  pub size : f.emulator.grid.size ≡ handed
  pub screen : screen_of f.emulator ≡ first_screen memory handed

-- a move in the shortest form; a character, for a pair the one of both halves
abbrev pub bytes_of : EcmaFace → Operation TextCell → List ℕ
bytes_of f (Move row column) = move_bytes (screen_of f.emulator).cursor row column
bytes_of f (Put c) = put_bytes f.emulator.pen c.character c.attributes
bytes_of f (PutPair c d) = put_bytes f.emulator.pen c.character c.attributes

-- the emulator read bytes
abbrev pub Reads : EcmaFace → List ℕ → EcmaFace → Type 0
Reads f bytes g = screen_of g.emulator ≡ read_bytes (screen_of f.emulator) bytes
