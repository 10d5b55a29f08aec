-- What is left to read leads from the screen at hand to the last one; the size is kept, and memory that does not fit it.
use Rattle.std.proofs.Common.{◌≡◌, drop}
use Rattle.emulator.specs.Emulators.{screen_of, Kept}
use Rattle.emulator.specs.Screens.{read_bytes}
use Rattle.emulator.proofs.Emulator.read_all.Given as goal

abbrev pub invariant-loop-byte : goal.invariant-loop-byte
invariant-loop-byte l =
    (read_bytes (screen_of l.self) (drop l.byte-index l.bytes) ≡ read_bytes (screen_of l.initial.self) l.bytes) × Kept l.initial.self.grid l.self.grid
