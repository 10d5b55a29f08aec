-- What a line holds, and what sending bytes leaves of it.
use Rattle.std.specs.Prelude.{◌≡◌, ℕ, ◌+◌, ◌-◌, List, [], ◌∷◌, ◌++◌, length, take, drop, Option, nat_lt}
use Rattle.faults.specs.declared.Fault.{Fault}
use Rattle.faults.specs.declared.Fault.TheVariants.{LineFull}
use Rattle.faults.specs.Refusals.{first}
use Rattle.lines.specs.declared.Line.{Line}

-- the bytes that were sent, oldest first
abbrev pub sent_bytes : List ℕ → ℕ → List ℕ
sent_bytes bytes sent = take sent bytes

-- the memory after new bytes were written over those from an index on: what stood before, the new ones, the rest
abbrev pub written : List ℕ → ℕ → List ℕ → List ℕ
written bytes from new = take from bytes ++ (new ++ drop (from + length new) bytes)

abbrev pub room_of : Line → ℕ
room_of l = length l.bytes.now - l.sent

-- n bytes are refused if the memory ends before them
abbrev pub send_refusal : Line → ℕ → Option Fault
send_refusal l n = first ((nat_lt (length l.bytes.now) (l.sent + n), LineFull) ∷ [])

-- what was sent before stays, then stand exactly the new bytes, the rest of the memory is unchanged
pub record Sent (l m : Line) (new : List ℕ) : Type 0 where
  pub bytes : m.bytes.now ≡ written l.bytes.now l.sent new
  pub sent : m.sent ≡ l.sent + length new
  pub same_length : length m.bytes.now ≡ length l.bytes.now

-- nothing counts as sent, the memory is unchanged
pub record Emptied (l m : Line) : Type 0 where
  pub bytes : m.bytes.now ≡ l.bytes.now
  pub sent : m.sent ≡ 0
