-- A run of operations on its way: some are done, the rest is still to do.
use Rattle.std.proofs.Common.{◌≡◌, ℕ, suc, ◌+◌, ◌*◌, ◌≤◌, List, [], ◌∷◌, ◌++◌, length, take, Some, Ok, Err, Result, sym, refl, ap, ◌∙◌, subst, add-zero, suc-mul, zero-mul, arith}
use Rattle.std.specs.List.{slice_get}
use Rattle.std.proofs.Math.Seq.{get_or-append_seam}
use Rattle.std.proofs.lemmas.Option.{slice_get-get_or}
use Rattle.std.proofs.lemmas.List.{take_at, length-append, append_assoc}
use Rattle.faults.specs.declared.Fault.{Fault}
use Rattle.cells.specs.Kinds.{Layer, Glyph}
use Rattle.terminal.specs.Meanings.{Meaning}
use Rattle.terminal.specs.Operations.{Operation, Move, Put, PutPair, refusal, perform, with_room, Accepted}
use Rattle.terminal.specs.Performing.{performs, Performed, Stopped, Effects}

-- n is what the done operations made of m
pub record Going {C : Type 0} (l : Layer C) (g : Glyph C) (m n : Meaning C) (ops rest : List (Operation C)) : Type 0 where
  pub done : List (Operation C)
  pub split : ops ≡ done ++ rest
  pub performed : with_room 0 n ≡ performs l g (with_room 0 m) done
  pub same_need : n.need ≡ m.need
  pub no_more_room : n.room ≤ m.room
  pub room_taken : m.room ≤ n.room + length done * m.need

-- an operation does nothing to the room or the need, and looks at no room
perform_room : {C : Type 0} (l : Layer C) (g : Glyph C) (m : Meaning C) (op : Operation C) (r : ℕ) → with_room r (perform l g m op) ≡ perform l g (with_room r m) op
perform_room l g m (Move row column) r = refl
perform_room l g m (Put c) r = refl
perform_room l g m (PutPair c d) r = refl

perform_need : {C : Type 0} (l : Layer C) (g : Glyph C) (m : Meaning C) (op : Operation C) → (perform l g m op).need ≡ m.need
perform_need l g m (Move row column) = refl
perform_need l g m (Put c) = refl
perform_need l g m (PutPair c d) = refl

-- one more operation
performs_push : {C : Type 0} (l : Layer C) (g : Glyph C) (m : Meaning C) (ops : List (Operation C)) (op : Operation C) → performs l g m (ops ++ op ∷ []) ≡ perform l g (performs l g m ops) op
performs_push l g m [] op = refl
performs_push l g m (o ∷ ops) op = performs_push l g (perform l g m o) ops op

slice_get_append : {X : Type 0} (xs : List X) (x : X) (ys : List X) → slice_get (xs ++ x ∷ ys) (length xs) ≡ Some x
slice_get_append xs x ys =
    slice_get-get_or (xs ++ x ∷ ys) (length xs) x (omega (arith, length-append xs (x ∷ ys))) ∙ ap Some (get_or-append_seam xs x ys x)

-- what an accepted operation leaves, but for the room, and its need
accepted_is : {C : Type 0} {l : Layer C} {g : Glyph C} {m n : Meaning C} {op : Operation C} → Accepted l g m n op → with_room 0 n ≡ perform l g (with_room 0 m) op
accepted_is {l = l} {g = g} {m = m} {op = op} a = ap (with_room 0) a.performed ∙ perform_room l g m op 0

accepted_need : {C : Type 0} {l : Layer C} {g : Glyph C} {m n : Meaning C} {op : Operation C} → Accepted l g m n op → n.need ≡ m.need
accepted_need {l = l} {g = g} {m = m} {op = op} a = ap (λ (x : Meaning _). x.need) a.performed ∙ perform_need l g m op

-- nothing is done yet
pub going_none : {C : Type 0} (l : Layer C) (g : Glyph C) (m : Meaning C) (ops : List (Operation C)) → Going l g m m ops ops
going_none l g m ops =
    record { done = []; split = refl; performed = refl; same_need = refl; no_more_room = omega arith; room_taken = omega (arith, zero-mul m.need) }

-- the next operation is accepted
pub going_more : {C : Type 0} {l : Layer C} {g : Glyph C} {m n p : Meaning C} {ops rest : List (Operation C)} {op : Operation C} → Going l g m n ops (op ∷ rest) → Accepted l g n p op → Going l g m p ops rest
going_more {l = l} {g = g} {m = m} {rest = rest} {op = op} w a =
    record {
      done = w.done ++ op ∷ [];
      split = w.split ∙ sym (append_assoc w.done (op ∷ []) rest);
      performed = accepted_is a ∙ ap (λ (x : Meaning _). perform l g x op) w.performed ∙ sym (performs_push l g (with_room 0 m) w.done op);
      same_need = accepted_need a ∙ w.same_need;
      no_more_room = omega (arith, a.no_more_room, w.no_more_room);
      room_taken =
          rw (length-append w.done (op ∷ []))
          (omega (arith, a.room_taken, w.room_taken, w.same_need, suc-mul (length w.done) m.need));
    }

-- what is done is performed
performed_so_far : {C : Type 0} {l : Layer C} {g : Glyph C} {m n : Meaning C} {ops rest : List (Operation C)} (w : Going l g m n ops rest) → Performed l g m n ops (length w.done)
performed_so_far {l = l} {g = g} {m = m} {rest = rest} w =
    record {
      performed = w.performed ∙ ap (performs l g (with_room 0 m)) (sym (ap (take (length w.done)) w.split ∙ take_at w.done rest _ refl));
      no_more_room = w.no_more_room;
      room_taken = w.room_taken;
    }

-- all are done
pub going_all : {C : Type 0} {l : Layer C} {g : Glyph C} {m n : Meaning C} {ops : List (Operation C)} → Going l g m n ops [] → Performed l g m n ops (length ops)
going_all {l = l} {g = g} {m = m} {n = n} {ops = ops} w =
    subst (λ (k : ℕ). Performed l g m n ops k) (sym (ap length w.split ∙ length-append w.done [] ∙ add-zero (length w.done))) (performed_so_far w)

-- the next operation is refused
pub going_stopped : {C : Type 0} {l : Layer C} {g : Glyph C} {m n : Meaning C} {ops rest : List (Operation C)} {op : Operation C} {f : Fault} → Going l g m n ops (op ∷ rest) → refusal g n op ≡ Some f → Stopped l g m n ops f
going_stopped {rest = rest} {op = op} w e =
    record {
      count = length w.done;
      below = omega (arith, ap length w.split, length-append w.done (op ∷ rest));
      performed = performed_so_far w;
      next = op;
      is_next = ap (λ (xs : List (Operation _)). slice_get xs (length w.done)) w.split ∙ slice_get_append w.done op rest;
      refused = e;
    }

-- an operation before others, all of them
first_performed : {C : Type 0} {l : Layer C} {g : Glyph C} {m n p : Meaning C} {ops : List (Operation C)} {op : Operation C} (k : ℕ) → Accepted l g m n op → Performed l g n p ops k → Performed l g m p (op ∷ ops) (suc k)
first_performed {l = l} {g = g} {m = m} {ops = ops} k a w =
    let need = accepted_need a in
    let taken : k * m.need ≡ k * _ = ap (λ (x : ℕ). k * x) (sym need) in
    record {
      performed = w.performed ∙ ap (λ (x : Meaning _). performs l g x (take k ops)) (accepted_is a);
      no_more_room = omega (arith, a.no_more_room, w.no_more_room);
      room_taken = omega (arith, a.room_taken, w.room_taken, taken, suc-mul k m.need);
    }

-- an operation before others, by the answer of those
pub first_effects : {C : Type 0} {l : Layer C} {g : Glyph C} {m n : Meaning C} {op : Operation C} (p : Meaning C) (ops : List (Operation C)) (r : Result Unit Fault) → Accepted l g m n op → Effects l g n p ops r → Effects l g m p (op ∷ ops) r
first_effects p ops (Ok x) a w = first_performed _ a w
first_effects p ops (Err f) a w =
    record {
      count = suc w.count;
      below = omega (arith, w.below);
      performed = first_performed w.count a w.performed;
      next = w.next;
      is_next = w.is_next;
      refused = w.refused;
    }

-- the next operation was refused and changed nothing
pub going_refused : {C : Type 0} {l : Layer C} {g : Glyph C} {m n p : Meaning C} {ops rest : List (Operation C)} {op : Operation C} {f : Fault} → Going l g m n ops (op ∷ rest) → Some f ≡ refusal g n op → p ≡ n → Stopped l g m p ops f
going_refused {l = l} {g = g} {m = m} {ops = ops} {f = f} w e same =
    subst (λ (x : Meaning _). Stopped l g m x ops f) (sym same) (going_stopped w (sym e))
