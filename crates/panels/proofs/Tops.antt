-- The topmost number of an order for which a test holds.
use Rattle.std.proofs.Common.{◌≡◌, ℕ, ◌+◌, Bool, true, cond, eqb, List, [], ◌∷◌, Some, refl, arith}
use mathlib.Core.List.{reverse}
use Rattle.std.specs.List.{find}
use Rattle.std.proofs.lemmas.List.Folds.{find-append}
use Rattle.std.proofs.lemmas.Bool.Decides.{nat_tests}
use Rattle.std.proofs.lemmas.List.{reverse-append}
use Rattle.areas.specs.Addresses.{in_span}
use Rattle.panels.specs.Decks.{topmost}

module _ (p : ℕ → Bool) where
  -- it is the first that is found from the top down
  pub topmost_found : (xs : List ℕ) → find p (reverse xs) ≡ topmost p xs
  topmost_found [] = refl
  topmost_found (x ∷ xs) = grind (arith, reverse-append (x ∷ []) xs, find-append p (reverse xs) (x ∷ []), topmost_found xs)

  -- it holds of the topmost
  pub topmost_holds : (xs : List ℕ) (n : ℕ) → topmost p xs ≡ Some n → p n ≡ true
  topmost_holds [] n e = absurd (let z : ◌≡◌ {A = ℕ} 0 1 = cc in omega arith)
  topmost_holds (x ∷ xs) n e = grind (arith, nat_tests, topmost_holds xs)

-- one column more is composed
pub composed_more : {C : Type 0} (f old : ℕ → C) (i x : ℕ) (v : C) → v ≡ f i → cond (eqb x i) v (cond (in_span 0 i x) (f x) (old x)) ≡ cond (in_span 0 (i + 1) x) (f x) (old x)
composed_more f old i x v e = grind (arith, nat_tests)
