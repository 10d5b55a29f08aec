-- Operations performed one after another.
use Rattle.std.specs.Prelude.{◌≡◌, ℕ, ◌+◌, ◌*◌, ◌<◌, ◌≤◌, List, [], ◌∷◌, length, take, Some, Result, MatchResult}
use Rattle.std.specs.List.{slice_get}
use Rattle.faults.specs.declared.Fault.{Fault}
use Rattle.cells.specs.Kinds.{Layer, Glyph}
use Rattle.terminal.specs.Meanings.{Meaning}
use Rattle.terminal.specs.Operations.{Operation, refusal, perform, with_room}

-- what operations do to all but the room, the first of them first
abbrev pub performs : {C : Type 0} → Layer C → Glyph C → Meaning C → List (Operation C) → Meaning C
performs l g m [] = m
performs l g m (op ∷ ops) = performs l g (perform l g m op) ops

-- n is, but for the room, what the first `count` of the operations make of m, and the room fell by at most the need of each
pub record Performed {C : Type 0} (l : Layer C) (g : Glyph C) (m n : Meaning C) (ops : List (Operation C)) (count : ℕ) : Type 0 where
  pub performed : with_room 0 n ≡ performs l g (with_room 0 m) (take count ops)
  pub no_more_room : n.room ≤ m.room
  pub room_taken : m.room ≤ n.room + count * m.need

-- some of the operations were performed, and the next one is refused
pub record Stopped {C : Type 0} (l : Layer C) (g : Glyph C) (m n : Meaning C) (ops : List (Operation C)) (f : Fault) : Type 0 where
  pub count : ℕ
  pub below : count < length ops
  pub performed : Performed l g m n ops count
  pub next : Operation C
  pub is_next : slice_get ops count ≡ Some next
  pub refused : refusal g n next ≡ Some f

-- what operations did, by the answer: all were performed, or those before the first refusal
abbrev pub Effects : {C : Type 0} → Layer C → Glyph C → Meaning C → Meaning C → List (Operation C) → Result Unit Fault → Type 0
Effects l g m n ops r = MatchResult r (λ _. Performed l g m n ops (length ops)) (λ f. Stopped l g m n ops f)
