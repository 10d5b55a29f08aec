-- Memory by addresses.
use Rattle.std.proofs.Common.{◌≡◌, ℕ, ◌<◌, cond, eqb, List, length, get_or, set, sym, refl, ◌∙◌, arith}
use Rattle.std.proofs.lemmas.List.FromFn.{length-map-range_with_len, get_or-map-range_with_len}
use Rattle.std.proofs.lemmas.List.{same_lists, get_or_default}
use Rattle.std.proofs.lemmas.Grind.{common_steps}
use Rattle.std.proofs.lemmas.Bool.Decides.{nat_tests}
use Rattle.areas.specs.Addresses.{in_span}
use Rattle.areas.specs.Memories.{by_address}

module _ {C : Type 0} (memory : List C) where
  pub length-by_address : (f : ℕ → C) → length (by_address memory f) ≡ length memory
  unfolding by_address
  length-by_address f = length-map-range_with_len f 0 (length memory)

  pub get_or-by_address : (f : ℕ → C) (x : ℕ) (d : C) → x < length memory → get_or (by_address memory f) x d ≡ f x
  unfolding by_address
  get_or-by_address f x d h = get_or-map-range_with_len f 0 (length memory) x x d h (omega arith)

  pub memory_is : (xs : List C) (f : ℕ → C) → length xs ≡ length memory → ((x : ℕ) (d : C) → x < length memory → get_or xs x d ≡ f x) → xs ≡ by_address memory f
  memory_is xs f long e =
      same_lists xs (by_address memory f) (long ∙ sym (length-by_address f))
      (λ x d h. let b : x < length memory = omega arith in e x d b ∙ sym (get_or-by_address f x d b))

  pub by_address_like : (f g : ℕ → C) → ((x : ℕ) → x < length memory → f x ≡ g x) → by_address memory f ≡ by_address memory g
  by_address_like f g e = memory_is (by_address memory f) g (length-by_address f) (λ x d h. get_or-by_address f x d h ∙ e x h)

  -- memory itself
  pub by_address_same : (f : ℕ → C) → ((x : ℕ) (d : C) → x < length memory → get_or memory x d ≡ f x) → memory ≡ by_address memory f
  by_address_same f e = memory_is memory f refl e

  -- nothing written yet
  pub none_written : (from n : ℕ) (f : ℕ → C) (d : C) → n ≡ 0 → memory ≡ by_address memory (λ x. cond (in_span from n x) (f x) (get_or memory x d))
  none_written from n f d e =
      by_address_same (λ x. cond (in_span from n x) (f x) (get_or memory x d)) (λ x d' h. get_or_default memory x d' d h ∙ (let z : get_or memory x d ≡ cond (in_span from n x) (f x) (get_or memory x d) = grind (arith, nat_tests) in z))

  -- one cell written
  pub set-by_address : (f : ℕ → C) (i : ℕ) (v : C) → i < length memory → set (by_address memory f) i v ≡ by_address memory (λ x. cond (eqb x i) v (f x))
  set-by_address f i v h =
      memory_is (set (by_address memory f) i v) (λ x. cond (eqb x i) v (f x)) (grind (arith, common_steps, length-by_address f))
      (λ x d b. grind (arith, nat_tests, common_steps, length-by_address f, get_or-by_address f x d b))

-- memory changed twice
pub by_address_twice : {C : Type 0} (memory : List C) (f g : ℕ → C) → by_address (by_address memory f) g ≡ by_address memory g
by_address_twice memory f g =
    memory_is memory (by_address (by_address memory f) g) g (length-by_address (by_address memory f) g ∙ length-by_address memory f)
    (λ x d b. get_or-by_address (by_address memory f) g x d (omega (arith, length-by_address memory f)))
