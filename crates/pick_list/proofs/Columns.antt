-- The pairs of two rows' cells that a filter lets through, counted.
use Rattle.std.proofs.Common.{◌≡◌, ℕ, suc, List, [], ◌∷◌, length, Option, None, Some, Bool, true, false, subst, sym, refl, ◌⊎◌, inl, inr, Bor, Iter, arith}
use Rattle.std.specs.Iterator.{Yields, Drains}
use Rattle.std.specs.Iterator.Adapters.{zip_steps, zip_first, zip_second, filter_steps, filter_source, filter_callee}
use Rattle.std.specs.declared.iter.Zip.{Zip}
use Rattle.std.specs.declared.iter.Filter.{Filter}
use Rattle.std.specs.Slice.Iter.{iter_rest, iter_steps}
use Rattle.std.specs.List.{FoldsTo}
use Rattle.std.specs.Fn.{CalledAt}
use denote.Param.Members.{Mut}
use Rattle.pick_list.specs.Differing.{Differing}

-- what is left of two rows
abbrev pub Columns : Type 0 → Type 0
Columns C = Zip (Iter C) (Iter C)

module _ {C : Type 0} where
  abbrev pub pairs : Columns C → Option (Bor C × Bor C) → Columns C → Type 0
  pairs = zip_steps iter_steps iter_steps

  abbrev pub LeftDiffer : Columns C → ℕ → Type 0
  LeftDiffer s n = Differing (iter_rest (zip_first s)) (iter_rest (zip_second s)) n

  -- past the end of either row nothing counts
  ended : (old new : List C) → ((length old ≡ 0) ⊎ (length new ≡ 0)) → Differing old new 0
  ended [] new h = refl
  ended (c ∷ old) [] h = refl
  ended (c ∷ old) (d ∷ new) h = grind arith

  -- a pair of equal cells adds nothing to what the columns after it count, any other adds one
  equal : (s t : Columns C) (x : Bor C × Bor C) (n : ℕ) → pairs s (Some x) t → x.0.now ≡ x.1.now → LeftDiffer t n → LeftDiffer s n
  equal s t x n h e d = rw (h.0, h.1) (inl (e, d))

  other : (s t : Columns C) (x : Bor C × Bor C) (n : ℕ) → pairs s (Some x) t → (x.0.now ≡ x.1.now → ⊥) → LeftDiffer t n → LeftDiffer s (suc n)
  other s t x n h e d = rw (h.0, h.1) (inr (e, (n, refl, d)))

  module _ {F : Type 0} (g : Mut F (Bor (Bor C × Bor C) × Unit {0}) Bool) where
    -- the closure answers whether the two cells of a pair differ
    pub record TellsOther : Type 0 where
      pub equal : (f : F) (x : Bor C × Bor C) (q : F) → CalledAt g f x false q → x.0.now ≡ x.1.now
      pub other : (f : F) (x : Bor C × Bor C) (q : F) → CalledAt g f x true q → x.0.now ≡ x.1.now → ⊥

    -- over the pairs that it passes over
    passed : TellsOther → (xs : List (Bor C × Bor C)) (s t : Columns C) (f q : F) (n : ℕ) → Yields pairs s xs t → FoldsTo (λ p x r. CalledAt g p x false r) f xs q → LeftDiffer t n → LeftDiffer s n
    passed h [] s t f q n y c d = subst (λ (z : Columns C). LeftDiffer z n) (sym y) d
    passed h (x ∷ xs) s t f q n (j, first, rest) (k, one, more) d = equal s j x n first (h.equal f x k one) (passed h xs j t k q n rest more d)

    -- those that it lets through are as many as the columns that differ
    drained : TellsOther → (xs : List (Bor C × Bor C)) (s t u : Filter (Columns C) F) → Yields (filter_steps pairs g) s xs t → filter_steps pairs g t None u → LeftDiffer (filter_source s) (length xs)
    drained h [] s t u y (xs, f, (j, ran, end), calls, kept) =
        subst (λ (z : Filter (Columns C) F). LeftDiffer (filter_source z) 0) (sym y)
        (passed h xs (filter_source t) j (filter_callee t) f 0 ran calls (ended _ _ (elim end [ inl e ↦ inl e.1.0 | inr e ↦ inr e.1.0 ])))
    drained h (x ∷ xs) s t u (j, (ys, f, (k, ran, here), calls, one), rest) last =
        passed h ys (filter_source s) k (filter_callee s) f (suc (length xs)) ran calls
        (other k (filter_source j) x (length xs) here (h.other f x _ one) (drained h xs j t u rest last))

    pub counted : TellsOther → (s : Filter (Columns C) F) (n : ℕ) (old new : List C) → ((xs : List (Bor C × Bor C)) × Drains (filter_steps pairs g) s xs × (n ≡ length xs)) → iter_rest (zip_first (filter_source s)) ≡ old → iter_rest (zip_second (filter_source s)) ≡ new → Differing old new n
    counted h s n old new (xs, (u, (t, y, last)), e) p q = rw (e, ← p, ← q) (drained h xs s t u y last)
