-- Orders in which no number stands twice.
use Rattle.std.proofs.Common.{◌≡◌, ℕ, zero, suc, ◌+◌, ◌-◌, ◌<◌, ◌≤◌, true, false, cond, eqb, ltb, List, [], ◌∷◌, ◌++◌, length, get_or, take, drop, None, Some, sym, refl, ap, ◌∙◌, inl, inr, arith}
use borrow.Rule.Slice.PartMut.{put_mid, post_of}
use Rattle.std.specs.List.{position, position_or_len, remove}
use Rattle.std.proofs.lemmas.List.{length-append, length-take-le, take-take, take_at}
use Rattle.std.proofs.lemmas.List.Folds.{list_any_none, list_any_at}
use Rattle.std.proofs.lemmas.List.Sums.{fails_before_first}
use Rattle.std.proofs.lemmas.List.Quantifiers.{position-Some}
use Rattle.std.proofs.lemmas.Bool.{both_ways, cond-true, eqb-true, cases_lt, lt-ltb}
use Rattle.std.proofs.lemmas.Bool.Decides.{nat_tests}
use Rattle.std.proofs.lemmas.Grind.{common_steps}
use Rattle.std.proofs.lemmas.Option.{none-some}
use Rattle.orders.specs.Orders.{has, times, without, raised, lowered}
use Rattle.orders.specs.Kept.{order_of}
use Rattle.orders.specs.declared.records.Order.{Order}
use Rattle.orders.proofs.Rotations.{rotated_to_end, rotated_to_front}

-- each number below the bound once at most, no other
abbrev pub Once : ℕ → List ℕ → Type 0
Once bound order = (n : ℕ) → times n order ≤ cond (ltb n bound) 1 0

pub times_append : (n : ℕ) (xs ys : List ℕ) → times n (xs ++ ys) ≡ times n xs + times n ys
times_append n [] ys = omega arith
times_append n (x ∷ xs) ys = grind (arith, times_append n xs ys)

-- a number that is not there
pub has_none : (n : ℕ) (xs : List ℕ) → has n xs ≡ false → times n xs ≡ 0
has_none n [] e = refl
has_none n (x ∷ xs) e = grind (arith, nat_tests, common_steps, has_none n xs)

pub without_none : (n : ℕ) (xs : List ℕ) → has n xs ≡ false → without n xs ≡ xs
without_none n [] e = refl
without_none n (x ∷ xs) e = grind (arith, nat_tests, common_steps, without_none n xs)

none_has : (n : ℕ) (xs : List ℕ) → times n xs ≡ 0 → has n xs ≡ false
none_has n [] e = refl
none_has n (x ∷ xs) e = grind (arith, nat_tests, common_steps, none_has n xs)

-- taking a number out takes out its place, if it stands there only
pub without_at : (n : ℕ) (xs : List ℕ) (i : ℕ) → i < length xs → get_or xs i 0 ≡ n → times n xs ≤ 1 → without n xs ≡ remove xs i
without_at n [] i h e once = absurd (omega arith)
without_at n (x ∷ xs) zero h e once = grind (arith, nat_tests, common_steps, without_none n xs, none_has n xs)
without_at n (x ∷ xs) (suc i) h e once = grind (arith, nat_tests, common_steps, without_at n xs i, none_has n xs)

-- how often numbers stand in what is left
pub times_without : (n m : ℕ) (xs : List ℕ) → times m (without n xs) ≡ cond (eqb m n) 0 (times m xs)
times_without n m [] = grind (arith, nat_tests)
times_without n m (x ∷ xs) = grind (arith, nat_tests, times_without n m xs)

length_without : (n : ℕ) (xs : List ℕ) → length xs ≡ times n xs + length (without n xs)
length_without n [] = refl
length_without n (x ∷ xs) = grind (arith, nat_tests, common_steps, length_without n xs)

-- numbers below a bound, each once at most, are no more than the bound
pub once_length : (bound : ℕ) (xs : List ℕ) → Once bound xs → length xs ≤ bound
once_length zero [] once = omega arith
once_length zero (x ∷ xs) once = let h = once x in grind (arith, nat_tests)
once_length (suc bound) xs once =
    let rest : Once bound (without bound xs) = λ m. let h = once m in grind (arith, nat_tests, times_without) in
    let one = once bound in
    grind (arith, nat_tests, length_without bound xs, once_length bound (without bound xs) rest)

-- so there is a place for one that is not there
pub once_place : (bound n : ℕ) (xs : List ℕ) → Once bound xs → n < bound → has n xs ≡ false → Once bound (n ∷ xs)
once_place bound n xs once h none m = let z = has_none n xs none in let o = once m in grind (arith, nat_tests)

pub once_without : (bound n : ℕ) (xs : List ℕ) → Once bound xs → Once bound (without n xs)
once_without bound n xs once m = let o = once m in grind (arith, nat_tests, times_without)

-- a number that is there stands there once
has_some : (n : ℕ) (xs : List ℕ) → has n xs ≡ true → 1 ≤ times n xs
has_some n [] e = absurd (both_ways false refl e)
has_some n (x ∷ xs) e = grind (arith, nat_tests, common_steps, has_some n xs)

once_at_most : (bound n : ℕ) (xs : List ℕ) → Once bound xs → times n xs ≤ 1
once_at_most bound n xs once = let h = once n in grind (arith, nat_tests)

pub times_one : (bound n : ℕ) (xs : List ℕ) → Once bound xs → has n xs ≡ true → times n xs ≡ 1
times_one bound n xs once t = omega (arith, has_some n xs t, once_at_most bound n xs once)

-- no number stands twice after a panel came up, went down or was shown
pub once_raised : (bound n : ℕ) (xs : List ℕ) → Once bound xs → Once bound (raised n xs)
once_raised bound n xs once m = let h = once m in let k = once n in let z = has_none n xs in grind (arith, nat_tests, has_some n xs, times_append, times_without)

pub once_lowered : (bound n : ℕ) (xs : List ℕ) → Once bound xs → Once bound (lowered n xs)
once_lowered bound n xs once m = let h = once m in let k = once n in grind (arith, nat_tests, has_some n xs, times_append, times_without)

pub once_shown : (bound n : ℕ) (xs : List ℕ) → Once bound xs → n < bound → has n xs ≡ false → Once bound (xs ++ n ∷ [])
once_shown bound n xs once h none m = let k = once_place bound n xs once h none m in grind (arith, nat_tests, times_append)

-- and there is room for one that is not shown
pub once_room : (bound n : ℕ) (xs : List ℕ) → Once bound xs → n < bound → has n xs ≡ false → length xs < bound
once_room bound n xs once h none = once_length bound (n ∷ xs) (once_place bound n xs once h none)

-- a number that is found nowhere is not there
pub nowhere : (n : ℕ) (xs : List ℕ) → position (λ m. eqb m n) xs ≡ None → has n xs ≡ false
nowhere n xs e =
    list_any_none (λ m. eqb m n) xs
    (λ k d h. fails_before_first (λ m. eqb m n) xs k d (elim (cases_lt (position_or_len (λ m. eqb m n) xs) (length xs)) [
      | inl b ↦ absurd (none-some _ (sym e ∙ cond-true _ _ _ (lt-ltb _ _ b)))
      | inr b ↦ omega arith
    ]))

-- a number that is found at a place of the order that is kept
module _ (n place : ℕ) (o : Order) (ys : List ℕ) (at : position (λ m. eqb m n) (order_of o) ≡ Some place) where
  place_is : (place < length (order_of o)) × (eqb (get_or (order_of o) place 0) n ≡ true) × ((k : ℕ) → k < place → eqb (get_or (order_of o) k 0) n ≡ false)
  place_is = position-Some (λ m. eqb m n) (order_of o) place 0 at

  long : o.shown ≤ length o.numbers
  long = omega (arith, o.sixteen, o.few)

  within : place < o.shown
  within = let h = place_is.0 in omega (arith, length-take-le o.shown o.numbers long)

  here : get_or (order_of o) place 0 ≡ n
  here = eqb-true _ _ place_is.1

  found : has n (order_of o) ≡ true
  found = list_any_at (λ m. eqb m n) (order_of o) place 0 place_is.0 place_is.1

  pub taken_out : without n (order_of o) ≡ remove (order_of o) place
  taken_out = without_at n (order_of o) place place_is.0 here (once_at_most 16 n (order_of o) o.once)

  -- moved to the end, and to the front
  pub turned_to_end : ys ≡ drop 1 (take (o.shown - place) (drop place o.numbers)) ++ take 1 (take (o.shown - place) (drop place o.numbers)) → take o.shown (put_mid place (o.shown - place) o.numbers ys) ≡ raised n (order_of o)
  turned_to_end e = rotated_to_end o.numbers place o.shown ys within long e ∙ sym (rw (found, taken_out) (ap (λ (x : ℕ). remove (order_of o) place ++ x ∷ []) (sym here)))

  pub turned_to_front : ys ≡ drop (length (take (place + 1 - 0) (drop 0 o.numbers)) - 1) (take (place + 1 - 0) (drop 0 o.numbers)) ++ take (length (take (place + 1 - 0) (drop 0 o.numbers)) - 1) (take (place + 1 - 0) (drop 0 o.numbers)) → take o.shown (ys ++ post_of 0 (place + 1 - 0) o.numbers) ≡ lowered n (order_of o)
  turned_to_front e = rotated_to_front o.numbers place o.shown ys within long e ∙ sym (rw (found, taken_out) (ap (λ (x : ℕ). x ∷ remove (order_of o) place) (sym here)))

-- a number that came to the end goes, if one fewer is shown
pub left_below : (n : ℕ) (o up : Order) → order_of up ≡ without n (order_of o) ++ n ∷ [] → take (up.shown - 1) up.numbers ≡ without n (order_of o)
left_below n o up e =
    let whole : length (without n (order_of o)) + 1 ≡ up.shown = sym (length-append (without n (order_of o)) (n ∷ [])) ∙ sym (ap length e) ∙ length-take-le up.shown up.numbers (omega (arith, up.sixteen, up.few)) in
    sym (take-take (up.shown - 1) up.shown up.numbers (omega arith)) ∙ ap (take (up.shown - 1)) e ∙ take_at (without n (order_of o)) (n ∷ []) (up.shown - 1) (omega arith)
