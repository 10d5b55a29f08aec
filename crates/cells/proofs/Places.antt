-- `nth`, the element at a place or none: what writing a list anew from its front leaves of it.
use Rattle.std.proofs.Common.{◌≡◌, ℕ, zero, suc, ◌+◌, ◌<◌, ◌≤◌, List, [], ◌∷◌, ◌++◌, length, get_or, take, drop, set, Some, sym, refl, ap, ◌∙◌, add-one, arith}
use Rattle.std.specs.List.{slice_get}
use Rattle.std.proofs.lemmas.List.{append-nil, take_all, drop_all}
use Rattle.std.proofs.lemmas.Option.{slice_get_within, get_or_from_slice_get}

module _ {X : Type 0} where
  -- new below n and old from n on: at n and after it the old elements stand
  pub slice_get-over : (n : ℕ) (new old : List X) → length new ≡ length old → (k : ℕ) → n ≤ k → slice_get (take n new ++ drop n old) k ≡ slice_get old k
  slice_get-over zero new old e k h = refl
  slice_get-over (suc n) [] [] e k h = refl
  slice_get-over (suc n) [] (y ∷ old) e k h = absurd (omega arith)
  slice_get-over (suc n) (x ∷ new) [] e k h = absurd (omega arith)
  slice_get-over (suc n) (x ∷ new) (y ∷ old) e zero h = absurd (omega arith)
  slice_get-over (suc n) (x ∷ new) (y ∷ old) e (suc k) h = slice_get-over n new old (omega arith) k (omega arith)

  -- one element more of the new list
  pub write_over : (k : ℕ) (new old : List X) (d : X) → length new ≡ length old → k < length old → set (take k new ++ drop k old) k (get_or new k d) ≡ take (suc k) new ++ drop (suc k) old
  write_over zero [] [] d e h = refl
  write_over zero [] (y ∷ old) d e h = absurd (omega arith)
  write_over zero (x ∷ new) [] d e h = absurd (omega arith)
  write_over zero (x ∷ new) (y ∷ old) d e h = refl
  write_over (suc k) [] [] d e h = refl
  write_over (suc k) [] (y ∷ old) d e h = absurd (omega arith)
  write_over (suc k) (x ∷ new) [] d e h = absurd (omega arith)
  write_over (suc k) (x ∷ new) (y ∷ old) d e h = ap (λ (xs : List X). x ∷ xs) (write_over k new old d (omega arith) (omega arith))

  -- the step of a loop that writes a list anew from its front
  pub over_more : (new old now : List X) (k : ℕ) (x : X) → length new ≡ length old → now ≡ take k new ++ drop k old → slice_get new k ≡ Some x → set now k x ≡ take (k + 1) new ++ drop (k + 1) old
  over_more new old now k x long e h =
      let within : k < length old = omega (arith, slice_get_within new k x h) in
      rw (add-one) (ap (λ (xs : List X). set xs k x) e ∙ ap (set (take k new ++ drop k old) k) (sym (get_or_from_slice_get new k x x h)) ∙ write_over k new old x long within)

  -- and its end
  pub over_all : (new old now : List X) (k : ℕ) → length new ≡ length old → now ≡ take k new ++ drop k old → length old ≤ k → now ≡ new
  over_all new old now k long e h = e ∙ rw (take_all k new (omega arith), drop_all k old h) (append-nil new)
