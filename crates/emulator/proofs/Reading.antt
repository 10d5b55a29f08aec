-- Bytes read one after another.
use Rattle.std.proofs.Common.{◌≡◌, ℕ, List, [], ◌∷◌, ◌++◌, Option, refl, ap, ◌∙◌}
use Rattle.reader.specs.Steps.{stepped}
use Rattle.reader.specs.declared.states.Action.{Action}
use Rattle.emulator.specs.Screens.{Screen, with_state, does, read_byte, read_bytes, CompletesNothing}

-- one part after another
pub read_append : (s : Screen) (xs ys : List ℕ) → read_bytes s (xs ++ ys) ≡ read_bytes (read_bytes s xs) ys
read_append s [] ys = refl
read_append s (x ∷ xs) ys = read_append (read_byte s x) xs ys

-- bytes that complete nothing change at most where the reader stands
pub nothing_read : (s t : Screen) (bytes : List ℕ) → t ≡ read_bytes s bytes → CompletesNothing s.state bytes → t ≡ with_state t.state s
nothing_read s t [] e h = rw e
nothing_read s t (byte ∷ bytes) e h =
    let next = with_state (stepped s.state byte).0 s in
    nothing_read next t bytes (e ∙ ap (λ (o : Option Action). read_bytes (does next o) bytes) h.0) h.1
