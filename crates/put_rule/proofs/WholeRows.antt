-- The put rule takes whole rows to whole rows.
use Rattle.std.proofs.Common.{◌≡◌, ℕ, zero, suc, ◌+◌, ◌-◌, ◌<◌, ◌≤◌, Bool, true, false, ◌&&◌, ◌||◌, List, length, get_or, Some, None, Option, sym, refl, ap, ◌∙◌, inl, inr, add-suc, arith}
use Rattle.std.specs.List.{slice_get}
use Rattle.std.proofs.lemmas.Option.{slice_get-get_or, slice_get_within, get_or_from_slice_get}
use Rattle.std.proofs.lemmas.Bool.{both_ways, cases_Bool, and_parts, or_cases, or_parts, or_from, and_from, and_left, and_right, cond-true, cond-false}
use Rattle.std.proofs.lemmas.Bool.Decides.{nat_tests}
use Rattle.cells.specs.Kinds.{Layer, Glyph, Lawful}
use Rattle.cells.specs.Rows.{before, after, paired, stays, Whole}
use Rattle.cells.proofs.Mending.{whole_stays, left_half_stays, right_half_stays, whole_from_stays, stays_from_whole}
use Rattle.put_rule.specs.Putting.{among, holds, loses_left, loses_right, put_at, put_row}
use Rattle.put_rule.proofs.PutRows.{length-put, get_or-put}

first_fails : (a b : Bool) → (a && b) ≡ false → b ≡ true → a ≡ false
first_fails false b e h = refl
first_fails true b e h = absurd (both_ways b e h)

-- a column is put over just if the next one is next to what is put
shifted : (from n k : ℕ) → among from n k ≡ false → among (suc from) n (suc k) ≡ false
shifted from n k out = grind (arith, nat_tests)

unshifted : (from n k : ℕ) → among (suc from) n (suc k) ≡ false → among from n k ≡ false
unshifted from n k out = grind (arith, nat_tests)

-- every cell of the row stays under mending
abbrev Stays : {C : Type 0} → Glyph C → List C → Type 0
Stays {C} g row = (k : ℕ) (c : C) → slice_get row k ≡ Some c → stays g (before row k) c (after row k) ≡ true

module _ {C : Type 0} (l : Layer C) (g : Glyph C) (laws : Lawful l g) (row : List C) (all : Stays g row) where
  -- what a half in such a row stands beside
  pair_of_right : (k : ℕ) (e : C) → slice_get row k ≡ Some e → g.right e ≡ true → (o : Option C) → before row k ≡ o → paired g o (Some e) ≡ true
  pair_of_right k e here right o at =
      elim (or_cases (g.drawable e && g.single e) (paired g (Some e) (after row k) || paired g (before row k) (Some e)) (all k e here)) [
        | inl single ↦ absurd (both_ways (g.right e) (laws.single_not_right e (and_parts _ _ single).1) right)
        | inr halves ↦
            elim (or_cases (paired g (Some e) (after row k)) (paired g (before row k) (Some e)) halves) [
              | inl p ↦ absurd (both_ways (g.right e) (laws.left_not_right e (left_of (after row k) p)) right)
              | inr p ↦ ap (λ (x : Option C). paired g x (Some e)) (sym at) ∙ p
            ]
      ]
    where
      left_of : (o : Option C) → paired g (Some e) o ≡ true → g.left e ≡ true
      left_of None p = absurd (both_ways false refl p)
      left_of (Some d) p = (laws.belong_left e d p).1

  pair_of_left : (k : ℕ) (a : C) → slice_get row k ≡ Some a → g.left a ≡ true → (o : Option C) → after row k ≡ o → paired g (Some a) o ≡ true
  pair_of_left k a here left o at =
      elim (or_cases (g.drawable a && g.single a) (paired g (Some a) (after row k) || paired g (before row k) (Some a)) (all k a here)) [
        | inl single ↦ absurd (both_ways (g.left a) (laws.single_not_left a (and_parts _ _ single).1) left)
        | inr halves ↦
            elim (or_cases (paired g (Some a) (after row k)) (paired g (before row k) (Some a)) halves) [
              | inl p ↦ ap (paired g (Some a)) (sym at) ∙ p
              | inr p ↦ absurd (both_ways (g.right a) (laws.left_not_right a left) (right_of (before row k) p))
            ]
      ]
    where
      right_of : (o : Option C) → paired g o (Some a) ≡ true → g.right a ≡ true
      right_of None p = absurd (both_ways false refl p)
      right_of (Some b) p = (laws.belong_right b a p).1

  -- no right half follows a right half, and no left half stands before one
  lone_right : (k : ℕ) (d : C) → slice_get row k ≡ Some d → g.right d ≡ true → (o : Option C) → after row k ≡ o → holds g.right o ≡ false
  lone_right k d here right None at = refl
  lone_right k d here right (Some e) at =
      elim (cases_Bool (g.right e)) [
        | inl t ↦ absurd (both_ways (g.right d) (laws.left_not_right d (laws.belong_left d e (pair_of_right (suc k) e at t (Some d) here)).1) right)
        | inr f ↦ f
      ]

  lone_left : (k : ℕ) (b : C) → slice_get row k ≡ Some b → g.left b ≡ true → (o : Option C) → before row k ≡ o → holds g.left o ≡ false
  lone_left k b here left None at = refl
  lone_left zero b here left (Some a) at = absurd (let z : ◌≡◌ {A = ℕ} 0 1 = cc in omega arith)
  lone_left (suc k) b here left (Some a) at =
      elim (cases_Bool (g.left a)) [
        | inl t ↦ absurd (both_ways (g.right b) (laws.left_not_right b left) (laws.belong_right a b (pair_of_left k a at t (Some b) here)).1)
        | inr f ↦ f
      ]

module _ {C : Type 0} (l : Layer C) (g : Glyph C) (laws : Lawful l g) (row new : List C) (from : ℕ) (inside : from + length new ≤ length row) where
  abbrev lost : ℕ → Bool
  lost k = loses_left g row from (length new) k || loses_right g row from (length new) k

  put_cell : (k : ℕ) (c : C) → slice_get row k ≡ Some c → slice_get (put_row l g row from new) k ≡ Some (put_at l g row from new k)
  put_cell k c e =
      let h = slice_get_within row k c e in
      slice_get-get_or (put_row l g row from new) k c (omega (arith, length-put l g row from new)) ∙ ap Some (get_or-put l g row from new k c h)

  -- the three kinds of column: put over, blanked, kept
  put_over : (j : ℕ) (c : C) → slice_get new j ≡ Some c → slice_get (put_row l g row from new) (from + j) ≡ Some c
  put_over j c e =
      let h = slice_get_within new j c e in
      let old = slice_get-get_or row (from + j) c (omega arith) in
      let here : among from (length new) (from + j) ≡ true = grind (arith, nat_tests) in
      let index : from + j - from ≡ j = omega arith in
      put_cell (from + j) (get_or row (from + j) c) old ∙ ap Some (cond-true _ _ _ here ∙ ap (λ (i : ℕ). get_or new i l.blank) index ∙ get_or_from_slice_get new j c l.blank e)

  blanked : (k : ℕ) (c : C) → slice_get row k ≡ Some c → among from (length new) k ≡ false → lost k ≡ true → slice_get (put_row l g row from new) k ≡ Some l.blank
  blanked k c e out gone = put_cell k c e ∙ ap Some (cond-false _ _ _ out ∙ cond-true _ _ _ gone)

  kept : (k : ℕ) (c : C) → slice_get row k ≡ Some c → among from (length new) k ≡ false → lost k ≡ false → slice_get (put_row l g row from new) k ≡ Some c
  kept k c e out safe = put_cell k c e ∙ ap Some (cond-false _ _ _ out ∙ cond-false _ _ _ safe ∙ get_or_from_slice_get row k c l.blank e)

  module _ (all : Stays g row) (whole : Stays g new) where
    -- a pair that is kept in one half is kept in the other
    right_kept : (k : ℕ) (c d : C) → slice_get row (suc k) ≡ Some d → g.belong c d ≡ true → among from (length new) k ≡ false → loses_right g row from (length new) k ≡ false → slice_get (put_row l g row from new) (suc k) ≡ Some d
    right_kept k c d at pair out safe =
        let right = (laws.belong_right c d pair).1 in
        let beside = first_fails _ _ safe (ap (holds g.right) at ∙ right) in
        let no-left : loses_left g row from (length new) (suc k) ≡ false = and_left _ _ (shifted from (length new) k out) in
        let no-right : loses_right g row from (length new) (suc k) ≡ false = and_right _ _ (lone_right l g laws row all (suc k) d at right (after row (suc k)) refl) in
        kept (suc k) d at beside (or_from _ _ no-left no-right)

    left_kept : (k : ℕ) (b c : C) → slice_get row k ≡ Some b → g.belong b c ≡ true → among from (length new) (suc k) ≡ false → loses_left g row from (length new) (suc k) ≡ false → slice_get (put_row l g row from new) k ≡ Some b
    left_kept k b c at pair out safe =
        let left = (laws.belong_left b c pair).1 in
        let beside = unshifted from (length new) k (first_fails _ _ safe (ap (holds g.left) at ∙ left)) in
        let no-left : loses_left g row from (length new) k ≡ false = and_right _ _ (lone_left l g laws row all k b at left (before row k) refl) in
        let no-right : loses_right g row from (length new) k ≡ false = and_left _ _ out in
        kept k b at beside (or_from _ _ no-left no-right)

    -- a cell of the old row that is kept stays
    old_stays : (k : ℕ) (c : C) → slice_get row k ≡ Some c → among from (length new) k ≡ false → lost k ≡ false → stays g (before (put_row l g row from new) k) c (after (put_row l g row from new) k) ≡ true
    old_stays k c e out safe =
        let both = or_parts _ _ safe in
        elim (or_cases (g.drawable c && g.single c) (paired g (Some c) (after row k) || paired g (before row k) (Some c)) (all k c e)) [
          | inl single ↦ whole_stays l g (before (put_row l g row from new) k) c (after (put_row l g row from new) k) single
          | inr halves ↦
              elim (or_cases (paired g (Some c) (after row k)) (paired g (before row k) (Some c)) halves) [
                | inl p ↦ left_half_stays l g (before (put_row l g row from new) k) c (after (put_row l g row from new) k) (with_right k c (after row k) refl p out both.1)
                | inr p ↦ right_half_stays l g (before (put_row l g row from new) k) c (after (put_row l g row from new) k) (with_left k c (before row k) refl p out both.0)
              ]
        ]
      where
        with_right : (k : ℕ) (c : C) (o : Option C) → after row k ≡ o → paired g (Some c) o ≡ true → among from (length new) k ≡ false → loses_right g row from (length new) k ≡ false → paired g (Some c) (after (put_row l g row from new) k) ≡ true
        with_right k c None at p out safe = absurd (both_ways false refl p)
        with_right k c (Some d) at p out safe = ap (paired g (Some c)) (right_kept k c d at p out safe) ∙ p

        with_left : (k : ℕ) (c : C) (o : Option C) → before row k ≡ o → paired g o (Some c) ≡ true → among from (length new) k ≡ false → loses_left g row from (length new) k ≡ false → paired g (before (put_row l g row from new) k) (Some c) ≡ true
        with_left k c None at p out safe = absurd (both_ways false refl p)
        with_left zero c (Some b) at p out safe = absurd (let z : ◌≡◌ {A = ℕ} 0 1 = cc in omega arith)
        with_left (suc k) c (Some b) at p out safe = ap (λ (o : Option C). paired g o (Some c)) (left_kept k b c at p out safe) ∙ p

    -- a cell that was put stays
    new_stays : (j : ℕ) (c : C) → slice_get new j ≡ Some c → stays g (before (put_row l g row from new) (from + j)) c (after (put_row l g row from new) (from + j)) ≡ true
    new_stays j c e =
        elim (or_cases (g.drawable c && g.single c) (paired g (Some c) (after new j) || paired g (before new j) (Some c)) (whole j c e)) [
          | inl single ↦ whole_stays l g (before (put_row l g row from new) (from + j)) c (after (put_row l g row from new) (from + j)) single
          | inr halves ↦
              elim (or_cases (paired g (Some c) (after new j)) (paired g (before new j) (Some c)) halves) [
                | inl p ↦ left_half_stays l g (before (put_row l g row from new) (from + j)) c (after (put_row l g row from new) (from + j)) (with_right j c (after new j) refl p)
                | inr p ↦ right_half_stays l g (before (put_row l g row from new) (from + j)) c (after (put_row l g row from new) (from + j)) (with_left j c (before new j) refl p)
              ]
        ]
      where
        with_right : (j : ℕ) (c : C) (o : Option C) → after new j ≡ o → paired g (Some c) o ≡ true → paired g (Some c) (after (put_row l g row from new) (from + j)) ≡ true
        with_right j c None at p = absurd (both_ways false refl p)
        with_right j c (Some d) at p = ap (paired g (Some c)) (ap (slice_get (put_row l g row from new)) (sym (add-suc from j)) ∙ put_over (suc j) d at) ∙ p

        with_left : (j : ℕ) (c : C) (o : Option C) → before new j ≡ o → paired g o (Some c) ≡ true → paired g (before (put_row l g row from new) (from + j)) (Some c) ≡ true
        with_left j c None at p = absurd (both_ways false refl p)
        with_left zero c (Some b) at p = absurd (let z : ◌≡◌ {A = ℕ} 0 1 = cc in omega arith)
        with_left (suc j) c (Some b) at p = ap (λ (o : Option C). paired g o (Some c)) (ap (before (put_row l g row from new)) (add-suc from j) ∙ put_over j b at) ∙ p

    put_stays : Stays g (put_row l g row from new)
    put_stays k c e =
        let within : k < length row = omega (arith, slice_get_within (put_row l g row from new) k c e, length-put l g row from new) in
        let old = slice_get-get_or row k c within in
        elim (cases_Bool (among from (length new) k)) [
          | inl put ↦
              let here : k ≡ from + (k - from) = grind (arith, nat_tests) in
              let at = slice_get-get_or new (k - from) c (grind (arith, nat_tests)) in
              let same = sym e ∙ ap (slice_get (put_row l g row from new)) here ∙ put_over (k - from) (get_or new (k - from) c) at in
              same_stays k (from + (k - from)) c (get_or new (k - from) c) here same (new_stays (k - from) (get_or new (k - from) c) at)
          | inr out ↦
              elim (cases_Bool (lost k)) [
                | inl gone ↦
                    let single = and_from _ _ laws.blank_drawable laws.blank_single in
                    same_stays k k c l.blank refl (sym e ∙ blanked k (get_or row k c) old out gone) (whole_stays l g (before (put_row l g row from new) k) l.blank (after (put_row l g row from new) k) single)
                | inr safe ↦ same_stays k k c (get_or row k c) refl (sym e ∙ kept k (get_or row k c) old out safe) (old_stays k (get_or row k c) old out safe)
              ]
        ]
      where
        same_stays : (k j : ℕ) (c d : C) → k ≡ j → Some c ≡ Some d → stays g (before (put_row l g row from new) j) d (after (put_row l g row from new) j) ≡ true → stays g (before (put_row l g row from new) k) c (after (put_row l g row from new) k) ≡ true
        same_stays k j c d here same h = let cell : c ≡ d = cc in rw (here, cell) h

-- whole cells put into a whole row leave a whole row
pub put_whole : {C : Type 0} (l : Layer C) (g : Glyph C) (laws : Lawful l g) (row new : List C) (from : ℕ) → from + length new ≤ length row → Whole l g new → Whole l g row → Whole l g (put_row l g row from new)
put_whole l g laws row new from inside whole old =
    whole_from_stays l g (put_row l g row from new) (put_stays l g laws row new from inside (stays_from_whole l g laws row old) (stays_from_whole l g laws new whole))
