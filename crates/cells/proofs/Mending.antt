-- The laws of mending.
use Rattle.std.proofs.Common.{◌≡◌, ℕ, zero, suc, ◌+◌, ◌<◌, Bool, true, false, cond, ◌&&◌, ◌||◌, List, ◌++◌, length, get_or, take, drop, set, Some, None, Option, sym, refl, ap, ◌∙◌, inl, inr, add-one, arith}
use Rattle.std.specs.List.{slice_get}
use Rattle.std.proofs.lemmas.List.FromFn.{length-map-range_with_len, get_or-map-range_with_len}
use Rattle.std.proofs.lemmas.List.{same_lists}
use Rattle.std.proofs.lemmas.Option.{slice_get-get_or, slice_get_within, get_or_from_slice_get}
use Rattle.std.proofs.lemmas.Bool.{both_ways, cases_Bool, or_cases, or_left, or_right, and_from, cond-true, cond-false}
use Rattle.cells.specs.Kinds.{Layer, Glyph, Lawful}
use Rattle.cells.specs.Rows.{before, after, paired, stays, mended_cell, mended_at, mended, ByColumn, Whole}
use Rattle.cells.proofs.Places.{slice_get-over, over_more}

cond_same : {A : Type 0} (b : Bool) (x : A) → cond b x x ≡ x
cond_same true x = refl
cond_same false x = refl

module _ {C : Type 0} (l : Layer C) (g : Glyph C) where
  -- the three reasons for which a cell stays
  pub whole_stays : (left : Option C) (c : C) (right : Option C) → (g.drawable c && g.single c) ≡ true → stays g left c right ≡ true
  whole_stays left c right h = or_left (g.drawable c && g.single c) (paired g (Some c) right || paired g left (Some c)) h

  pub left_half_stays : (left : Option C) (c : C) (right : Option C) → paired g (Some c) right ≡ true → stays g left c right ≡ true
  left_half_stays left c right h =
      or_right (g.drawable c && g.single c) (paired g (Some c) right || paired g left (Some c)) (or_left (paired g (Some c) right) (paired g left (Some c)) h)

  pub right_half_stays : (left : Option C) (c : C) (right : Option C) → paired g left (Some c) ≡ true → stays g left c right ≡ true
  right_half_stays left c right h =
      or_right (g.drawable c && g.single c) (paired g (Some c) right || paired g left (Some c)) (or_right (paired g (Some c) right) (paired g left (Some c)) h)

  -- as long as the row
  pub length-mended : (row : List C) → length (mended l g row) ≡ length row
  unfolding mended
  length-mended row = length-map-range_with_len (mended_at l g row) 0 (length row)

  -- and by columns
  pub get_or-mended : (row : List C) (k : ℕ) (d : C) → k < length row → get_or (mended l g row) k d ≡ mended_at l g row k
  unfolding mended
  get_or-mended row k d h = get_or-map-range_with_len (mended_at l g row) 0 (length row) k k d h (omega arith)

  pub slice_get-mended : (row : List C) → ByColumn l g row (mended l g row)
  slice_get-mended row k c e =
      let h : k < length (mended l g row) = omega (arith, slice_get_within row k c e, length-mended row) in
      slice_get-get_or (mended l g row) k l.blank h ∙ ap Some (get_or-mended row k l.blank (slice_get_within row k c e) ∙ ap (λ (x : C). mended_cell l g (before row k) x (after row k)) (get_or_from_slice_get row k c l.blank e))

  module _ (row : List C) where
    -- a cell that stays is there in the mended row
    pub slice_get-stays : (k : ℕ) (c : C) → slice_get row k ≡ Some c → stays g (before row k) c (after row k) ≡ true → slice_get (mended l g row) k ≡ Some c
    slice_get-stays k c e t = slice_get-mended row k c e ∙ ap Some (cond-true _ c l.blank t)

    -- and a pair stays a pair
    pair_right : (k : ℕ) (c : C) → slice_get row k ≡ Some c → (right : Option C) → after row k ≡ right → paired g (Some c) right ≡ true → paired g (Some c) (after (mended l g row) k) ≡ true
    pair_right k c e None r t = absurd (both_ways false refl t)
    pair_right k c e (Some d) r t =
        let kept = right_half_stays (before row (suc k)) d (after row (suc k)) (ap (λ (o : Option C). paired g o (Some d)) e ∙ t) in
        ap (paired g (Some c)) (slice_get-stays (suc k) d r kept) ∙ t

    pair_left : (k : ℕ) (c : C) → slice_get row k ≡ Some c → (left : Option C) → before row k ≡ left → paired g left (Some c) ≡ true → paired g (before (mended l g row) k) (Some c) ≡ true
    pair_left k c e None r t = absurd (both_ways false refl t)
    pair_left zero c e (Some b) r t = absurd (let z : ◌≡◌ {A = ℕ} 0 1 = cc in omega arith)
    pair_left (suc k) c e (Some b) r t =
        let kept = left_half_stays (before row k) b (after row k) (ap (paired g (Some b)) e ∙ t) in
        ap (λ (o : Option C). paired g o (Some c)) (slice_get-stays k b r kept) ∙ t

    stays_again : (k : ℕ) (c : C) → slice_get row k ≡ Some c → stays g (before row k) c (after row k) ≡ true → stays g (before (mended l g row) k) c (after (mended l g row) k) ≡ true
    stays_again k c e t =
        elim (or_cases (g.drawable c && g.single c) (paired g (Some c) (after row k) || paired g (before row k) (Some c)) t) [
          | inl whole ↦ whole_stays (before (mended l g row) k) c (after (mended l g row) k) whole
          | inr halves ↦
              elim (or_cases (paired g (Some c) (after row k)) (paired g (before row k) (Some c)) halves) [
                | inl p ↦ left_half_stays (before (mended l g row) k) c (after (mended l g row) k) (pair_right k c e (after row k) refl p)
                | inr p ↦ right_half_stays (before (mended l g row) k) c (after (mended l g row) k) (pair_left k c e (before row k) refl p)
              ]
        ]

    settled_at : (k : ℕ) (c : C) → slice_get row k ≡ Some c → slice_get (mended l g (mended l g row)) k ≡ slice_get (mended l g row) k
    settled_at k c e =
        elim (cases_Bool (stays g (before row k) c (after row k))) [
          | inl t ↦
              slice_get-mended (mended l g row) k c (slice_get-stays k c e t) ∙ ap Some (cond-true _ c l.blank (stays_again k c e t)) ∙ sym (slice_get-stays k c e t)
          | inr f ↦
              let gone : slice_get (mended l g row) k ≡ Some l.blank = slice_get-mended row k c e ∙ ap Some (cond-false _ c l.blank f) in
              slice_get-mended (mended l g row) k l.blank gone ∙ ap Some (cond_same _ l.blank) ∙ sym gone
        ]

    -- a mended row is left alone by mending
    pub settles : Whole l g (mended l g row)
    settles =
        same_lists _ _ (length-mended (mended l g row))
        (λ k d h. let within : k < length row = omega (arith, h, length-mended (mended l g row), length-mended row) in
        let e = settled_at k (get_or row k d) (slice_get-get_or row k d within) in
        get_or_from_slice_get _ k _ d (e ∙ slice_get-get_or (mended l g row) k d (omega (arith, within, length-mended row))))

    -- the step of a loop that mends from the left: `now` is mended below k and raw from k on
    pub mend_more : (now : List C) (k : ℕ) (c new : C) (left right : Option C) → now ≡ take k (mended l g row) ++ drop k row → left ≡ before row k → slice_get now k ≡ Some c → right ≡ slice_get now (k + 1) → new ≡ mended_cell l g left c right → (set now k new ≡ take (k + 1) (mended l g row) ++ drop (k + 1) row) × (Some c ≡ before row (k + 1))
    mend_more now k c new left right e f h r n =
        let long = length-mended row in
        let here : slice_get row k ≡ Some c = sym (slice_get-over k (mended l g row) row long k (omega arith)) ∙ rw e at h in
        let next : right ≡ after row k = rw e at r ∙ slice_get-over k (mended l g row) row long (k + 1) (omega arith) ∙ ap (slice_get row) (add-one k) in
        let made : slice_get (mended l g row) k ≡ Some new = slice_get-mended row k c here ∙ sym (ap Some (n ∙ ap (λ (o : Option C). mended_cell l g o c right) f ∙ ap (mended_cell l g (before row k) c) next)) in
        (over_more (mended l g row) row now k new long e made, rw add-one (sym here))

  -- a row is whole just if every cell of it stays
  pub whole_from_stays : (row : List C) → ((k : ℕ) (c : C) → slice_get row k ≡ Some c → stays g (before row k) c (after row k) ≡ true) → Whole l g row
  whole_from_stays row all =
      same_lists _ _ (length-mended row)
      (λ k d h. let within : k < length row = omega (arith, length-mended row) in
      let e = slice_get-get_or row k d within in
      get_or_from_slice_get _ k (get_or row k d) d (slice_get-mended row k (get_or row k d) e ∙ ap Some (cond-true _ (get_or row k d) l.blank (all k (get_or row k d) e))))

  pub stays_from_whole : Lawful l g → (row : List C) → Whole l g row → (k : ℕ) (c : C) → slice_get row k ≡ Some c → stays g (before row k) c (after row k) ≡ true
  stays_from_whole laws row whole k c e =
      elim (cases_Bool (stays g (before row k) c (after row k))) [
        | inl t ↦ t
        | inr f ↦
            let kept : Some c ≡ Some (mended_cell l g (before row k) c (after row k)) = sym e ∙ ap (λ (xs : List C). slice_get xs k) (sym whole) ∙ slice_get-mended row k c e in
            let blank : Some c ≡ Some l.blank = kept ∙ ap Some (cond-false _ c l.blank f) in
            let drawn : c ≡ l.blank = cc in
            whole_stays (before row k) c (after row k) (rw drawn (and_from _ _ laws.blank_drawable laws.blank_single))
      ]
