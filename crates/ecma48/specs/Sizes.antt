-- The sizes of the terminal, and its meaning by the screen that its emulator holds.
use Rattle.std.specs.Prelude.{ℕ, Bool, true, false, cond, ◌&&◌, [], None, Option}
use Rattle.faults.specs.declared.Fault.{Fault}
use Rattle.text_cells.specs.declared.TextCell.{TextCell}
use Rattle.terminal.specs.Sizes.{within, size_refusal as limited_refusal}
use Rattle.terminal.specs.declared.sizes.Limits.{Limits}
use Rattle.terminal.specs.Meanings.{Meaning}
use Rattle.devices.specs.Shown.{Shown, over}
use Rattle.reader.specs.declared.states.State.{State}
use Rattle.reader.specs.declared.states.State.TheVariants.{Plain, InSequence, InCharacter}
use Rattle.emulator.specs.Screens.{Screen}

-- 1 to 64 rows, 1 to 128 columns
abbrev pub limits : Limits
limits = record { rows = 64; columns = 128 }

abbrev pub is_size : ℕ → ℕ → Bool
is_size rows columns = within limits.rows limits.columns rows columns

-- why a size is refused over memory of that many cells, in the order of the tests
abbrev pub size_refusal : ℕ → ℕ → ℕ → Option Fault
size_refusal rows columns cells = limited_refusal limits.rows limits.columns rows columns cells

-- between characters and sequences
abbrev pub is_plain : State → Bool
is_plain Plain = true
is_plain (InSequence q) = false
is_plain (InCharacter g) = false

-- the emulator's size is allowed, and it waits for no further byte
abbrev pub is_usable : Screen → Bool
is_usable s = is_size s.rows s.columns && is_plain s.state

-- what it shows of a screen: nothing of one that is not usable
abbrev pub shown_on : Screen → Shown TextCell
shown_on s = record {
  rows = cond (is_usable s) s.rows 0;
  columns = cond (is_usable s) s.columns 0;
  grid = cond (is_usable s) s.grid [];
  cursor = cond (is_usable s) s.cursor None;
}

-- no operation takes more than 15 bytes
abbrev pub over_screen : Screen → ℕ → ℕ → Meaning TextCell
over_screen s room tally = over (shown_on s) room 15 tally
