-- The topmost panel, where tests agree on every number of an order.
use Rattle.std.proofs.Common.{◌≡◌, ℕ, Bool, true, false, cond, eqb, List, [], ◌∷◌, ◌++◌, Some, None, Option, refl, ap, ap₂, arith}
use Rattle.std.proofs.lemmas.Bool.{both_ways, or_left, or_right, eq-eqb}
use Rattle.std.proofs.lemmas.Bool.Decides.{nat_tests}
use Rattle.std.proofs.lemmas.Grind.{common_steps}
use Rattle.orders.specs.Orders.{has, without}
use Rattle.panels.specs.Decks.{any, or_else, topmost}

or_else_none : (o : Option ℕ) → or_else o None ≡ o
or_else_none o = grind arith

module _ (p : ℕ → Bool) (n : ℕ) (off : p n ≡ false) where
  -- a number for which the test fails may come and go
  pub topmost_push : (xs : List ℕ) → topmost p (xs ++ n ∷ []) ≡ topmost p xs
  topmost_push [] = rw off refl
  topmost_push (x ∷ xs) = ap (λ (o : Option ℕ). or_else o (cond (p x) (Some x) None)) (topmost_push xs)

  pub topmost_front : (xs : List ℕ) → topmost p (n ∷ xs) ≡ topmost p xs
  topmost_front xs = rw off (or_else_none (topmost p xs))

  pub topmost_without : (xs : List ℕ) → topmost p (without n xs) ≡ topmost p xs
  topmost_without [] = refl
  topmost_without (x ∷ xs) = let rest = topmost_without xs in grind (arith, common_steps, nat_tests)

-- tests that agree on the numbers of an order have the same topmost
pub topmost_like : (p q : ℕ → Bool) (xs : List ℕ) → ((n : ℕ) → has n xs ≡ true → p n ≡ q n) → topmost p xs ≡ topmost q xs
topmost_like p q [] e = refl
topmost_like p q (x ∷ xs) e =
    ap₂ or_else (topmost_like p q xs (λ n t. e n (or_right (eqb x n) (has n xs) t))) (ap (λ (b : Bool). cond b (Some x) None) (e x (or_left (eqb x x) (has x xs) (eq-eqb x x refl))))

-- the topmost is one of the order
pub topmost_has : (p : ℕ → Bool) (xs : List ℕ) (n : ℕ) → topmost p xs ≡ Some n → has n xs ≡ true
topmost_has p [] n e = absurd (let z : ◌≡◌ {A = ℕ} 0 1 = cc in omega arith)
topmost_has p (x ∷ xs) n e = let rest : topmost p xs ≡ Some n → has n xs ≡ true = topmost_has p xs n in grind (arith, common_steps, nat_tests)

-- a test that fails for all fails for each
pub any_false : (p : ℕ → Bool) (xs : List ℕ) → any p xs ≡ false → (n : ℕ) → has n xs ≡ true → p n ≡ false
any_false p [] e n t = absurd (both_ways false refl t)
any_false p (x ∷ xs) e n t = let rest : any p xs ≡ false → has n xs ≡ true → p n ≡ false = λ f h. any_false p xs f n h in grind (arith, common_steps, nat_tests)
