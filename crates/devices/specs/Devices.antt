-- What a device means, and what its operations leave of it.
use Rattle.std.specs.Prelude.{◌≡◌, ℕ, List}
use Rattle.lines.specs.Sending.{room_of, Sent, Emptied}
use Rattle.terminal.specs.Meanings.{Meaning}
use Rattle.terminal.specs.Operations.{Operation}
use Rattle.devices.specs.Shown.{Shown, over}
use Rattle.devices.specs.declared.device.Device.{Device}

-- what its face shows, with the room of its line, and its tally
abbrev pub device_of : {F C : Type 0} → (F → Shown C) → ℕ → Device F → Meaning C
device_of shown need d = over (shown d.face) (room_of d.line) need d.tally

-- the bytes of an operation were sent, and the face read them
pub record Said {F C : Type 0} (bytes_of : F → Operation C → List ℕ) (Reads : F → List ℕ → F → Type 0) (d e : Device F) (op : Operation C) : Type 0 where
  pub line : Sent d.line e.line (bytes_of d.face op)
  pub face : Reads d.face (bytes_of d.face op) e.face

-- only the line was emptied
pub record LineEmptied {F : Type 0} (d e : Device F) : Type 0 where
  pub line : Emptied d.line e.line
  pub face : e.face ≡ d.face
  pub tally : e.tally ≡ d.tally
