-- The smallest range, by what it holds: both its ends are wanted, and nothing outside it is.
use Rattle.std.proofs.Common.{◌≡◌, ℕ, zero, suc, ◌<◌, ◌≤◌, Bool, true, false, ◌||◌, Some, None, Option, sym, refl, ◌∙◌, ap₂, arith}
use Rattle.std.proofs.lemmas.Bool.Decides.{nat_tests}
use Rattle.ranges.specs.Ranges.{Range, inside, grown, smallest}

-- what a range is to p over the first n columns
pub record Ends (p : ℕ → Bool) (n first last : ℕ) : Type 0 where
  pub order : first ≤ last
  pub below : last < n
  pub at_first : p first ≡ true
  pub at_last : p last ≡ true
  pub holds : (c : ℕ) → c < n → p c ≡ true → (first ≤ c) × (c ≤ last)

abbrev pub Hull : (ℕ → Bool) → ℕ → Option Range → Type 0
Hull p n None = (c : ℕ) → c < n → p c ≡ false
Hull p n (Some r) = Ends p n r.0 r.1

grown_none : (p : ℕ → Bool) (n : ℕ) → p n ≡ true → Hull p n None → Hull p (suc n) (Some (n, n))
grown_none p n here none = record {
  order = omega arith;
  below = omega arith;
  at_first = here;
  at_last = here;
  holds = λ c h t. let k = none c in (grind arith, grind arith);
}

grown_some : (p : ℕ → Bool) (n first last : ℕ) → p n ≡ true → Ends p n first last → Hull p (suc n) (Some (first, n))
grown_some p n first last here e = record {
  order = omega (arith, e.order, e.below);
  below = omega arith;
  at_first = e.at_first;
  at_last = here;
  holds = λ c h t. let k = e.holds c in (grind (arith, e.order, e.below), omega arith);
}

same_none : (p : ℕ → Bool) (n : ℕ) → p n ≡ false → Hull p n None → Hull p (suc n) None
same_none p n here none c h = let k = none c in grind arith

same_some : (p : ℕ → Bool) (n first last : ℕ) → p n ≡ false → Ends p n first last → Ends p (suc n) first last
same_some p n first last here e = record {
  order = e.order;
  below = omega (arith, e.below);
  at_first = e.at_first;
  at_last = e.at_last;
  holds = λ c h t. let k = e.holds c in (grind arith, grind arith);
}

hull_grown : (p : ℕ → Bool) (n : ℕ) (b : Bool) (r : Option Range) → p n ≡ b → Hull p n r → Hull p (suc n) (grown b n r)
hull_grown p n false None e h = same_none p n e h
hull_grown p n false (Some r) e h = same_some p n r.0 r.1 e h
hull_grown p n true None e h = grown_none p n e h
hull_grown p n true (Some r) e h = grown_some p n r.0 r.1 e h

-- the smallest range is one
pub hull : (p : ℕ → Bool) (n : ℕ) → Hull p n (smallest p n)
unfolding smallest
hull p zero = λ c h. absurd (omega arith)
hull p (suc n) = hull_grown p n (p n) (smallest p n) refl (hull p n)

-- and the only one
pub hull_only : (p : ℕ → Bool) (n : ℕ) (r s : Option Range) → Hull p n r → Hull p n s → r ≡ s
hull_only p n None None h k = refl
hull_only p n None (Some s) h k = let z = h s.0 in grind (arith, k.order, k.below, k.at_first)
hull_only p n (Some r) None h k = let z = k r.0 in grind (arith, h.order, h.below, h.at_first)
hull_only p n (Some r) (Some s) h k =
    let first : r.0 ≡ s.0 = omega (arith, h.holds s.0 (omega (arith, k.order, k.below)) k.at_first, k.holds r.0 (omega (arith, h.order, h.below)) h.at_first) in
    let last : r.1 ≡ s.1 = omega (arith, h.holds s.1 k.below k.at_last, k.holds r.1 h.below h.at_last) in
    ap₂ (λ (a b : ℕ). Some (a, b)) first last

pub smallest_is : (p : ℕ → Bool) (n : ℕ) (r : Option Range) → Hull p n r → smallest p n ≡ r
smallest_is p n r h = hull_only p n (smallest p n) r (hull p n) h

-- it depends on what p says below n only
pub hull_like : (p q : ℕ → Bool) (n : ℕ) (r : Option Range) → ((c : ℕ) → c < n → p c ≡ q c) → Hull p n r → Hull q n r
hull_like p q n None e h = λ c b. sym (e c b) ∙ h c b
hull_like p q n (Some r) e h = record {
  order = h.order;
  below = h.below;
  at_first = sym (e r.0 (omega (arith, h.order, h.below))) ∙ h.at_first;
  at_last = sym (e r.1 h.below) ∙ h.at_last;
  holds = λ c b t. h.holds c b (e c b ∙ t);
}

pub smallest_like : (p q : ℕ → Bool) (n : ℕ) → ((c : ℕ) → c < n → p c ≡ q c) → smallest p n ≡ smallest q n
smallest_like p q n e = sym (smallest_is q n (smallest p n) (hull_like p q n (smallest p n) e (hull p n)))

-- columns of a range
pub inside_from : (r : Range) (c : ℕ) → r.0 ≤ c → c ≤ r.1 → inside (Some r) c ≡ true
inside_from r c a b = grind (arith, nat_tests)

pub inside_bounds : (r : Range) (c : ℕ) → inside (Some r) c ≡ true → (r.0 ≤ c) × (c ≤ r.1)
inside_bounds r c t = (grind (arith, nat_tests), grind (arith, nat_tests))

-- what is wanted is in the range
pub hull_inside : (p : ℕ → Bool) (n : ℕ) (r : Option Range) → Hull p n r → (c : ℕ) → c < n → p c ≡ true → inside r c ≡ true
hull_inside p n None h c b t = let k = h c b in grind arith
hull_inside p n (Some r) h c b t = let k = h.holds c b t in inside_from r c k.0 k.1

-- a range of a row is the smallest that holds it
pub range_hull : (r : Range) (n : ℕ) → r.0 ≤ r.1 → r.1 < n → Hull (inside (Some r)) n (Some r)
range_hull r n order below = record {
  order = order;
  below = below;
  at_first = grind (arith, nat_tests);
  at_last = grind (arith, nat_tests);
  holds = λ c b t. inside_bounds r c t;
}

-- a range over another and k is one over what the other holds and k
module _ (p k : ℕ → Bool) (n : ℕ) where
  over_inside : (s : Option Range) (c : ℕ) → Hull p n s → c < n → (p c || k c) ≡ true → (inside s c || k c) ≡ true
  over_inside s c h b t = let i = hull_inside p n s h c b in grind arith

  -- the first column of a range over s and k: of k, or the first of s
  over_first : (s : Option Range) (first last : ℕ) → Hull p n s → Ends (λ c. inside s c || k c) n first last → (p first || k first) ≡ true
  over_first None first last h e = grind (arith, e.at_first)
  over_first (Some s) first last h e = let i = e.holds s.0 in grind (arith, nat_tests, e.at_first, e.order, e.below, h.order, h.below, h.at_first)

  over_last : (s : Option Range) (first last : ℕ) → Hull p n s → Ends (λ c. inside s c || k c) n first last → (p last || k last) ≡ true
  over_last None first last h e = grind (arith, e.at_last)
  over_last (Some s) first last h e = let i = e.holds s.1 in grind (arith, nat_tests, e.at_last, e.order, e.below, h.order, h.below, h.at_last)

  pub hull_over : (s r : Option Range) → Hull p n s → Hull (λ c. inside s c || k c) n r → Hull (λ c. p c || k c) n r
  hull_over s None h e = λ c b. let i = e c b in let j = over_inside s c h b in grind arith
  hull_over s (Some r) h e = record {
    order = e.order;
    below = e.below;
    at_first = over_first s r.0 r.1 h e;
    at_last = over_last s r.0 r.1 h e;
    holds = λ c b t. e.holds c b (over_inside s c h b t);
  }
