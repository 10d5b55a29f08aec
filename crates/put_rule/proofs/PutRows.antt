-- The put rule on one row: its laws, and the writes that carry it out.
use Rattle.std.proofs.Common.{◌≡◌, ℕ, zero, suc, ◌+◌, ◌-◌, ◌<◌, ◌≤◌, Bool, true, false, cond, ◌&&◌, eqb, ltb, List, ◌++◌, length, get_or, take, drop, set, sym, refl, ap, ◌∙◌, inl, inr, arith}
use borrow.Rule.Slice.PartMut.{put_mid}
use Rattle.std.specs.List.{slice_get}
use Rattle.std.proofs.lemmas.List.FromFn.{length-map-range_with_len, get_or-map-range_with_len}
use Rattle.std.proofs.lemmas.List.{same_lists, length-append, length-take, length-take-le, length-drop, length-set, set_past, get_or_append_left, get_or-append_right, get_or-take, get_or-drop, get_or_default, get_or-set_same, get_or-set_other}
use Rattle.std.proofs.lemmas.Bool.{cases_eq, cases_lt, eq-eqb, ne_eqb, lt-ltb, le-ltb, lt-leb, le-leb, cond_both}
use Rattle.std.proofs.lemmas.Bool.Decides.{nat_tests}
use Rattle.cells.specs.Kinds.{Layer, Glyph}
use Rattle.put_rule.specs.Putting.{among, holds, loses_left, loses_right, put_at, put_row}

-- a write that is made or not
pub length_set_if : {X : Type 0} (b : Bool) (xs : List X) (i : ℕ) (x : X) → length (cond b (set xs i x) xs) ≡ length xs
length_set_if true xs i x = length-set xs i x
length_set_if false xs i x = refl

pub get_or_set_if : {X : Type 0} (b : Bool) (xs : List X) (i : ℕ) (x : X) (k : ℕ) (d : X) → k < length xs → get_or (cond b (set xs i x) xs) k d ≡ cond (b && eqb i k) x (get_or xs k d)
get_or_set_if false xs i x k d h = refl
get_or_set_if true xs i x k d h =
    elim (cases_eq k i) [
      | inl e ↦ rw (eq-eqb i k (sym e)) (rw e (get_or-set_same xs i x d (omega arith)))
      | inr ne ↦ rw (ne_eqb i k (λ e. ne (sym e))) (get_or-set_other xs i k x d ne)
    ]

-- a part of a list written over
pub length-put_mid : {X : Type 0} (a : ℕ) (xs ys : List X) → a + length ys ≤ length xs → length (put_mid a (length ys) xs ys) ≡ length xs
length-put_mid a xs ys h = simp (length-append, length-take, length-drop) (omega arith)

pub get_or-put_mid : {X : Type 0} (a : ℕ) (xs ys : List X) (k : ℕ) (d : X) → a + length ys ≤ length xs → get_or (put_mid a (length ys) xs ys) k d ≡ cond (among a (length ys) k) (get_or ys (k - a) d) (get_or xs k d)
get_or-put_mid a xs ys k d h =
    let front : length (take a xs) ≡ a = length-take-le a xs (omega arith) in
    elim (cases_lt k a) [
      | inl below ↦ rw (lt-leb a k below) (get_or_append_left (take a xs) _ d k (omega arith) ∙ get_or-take a xs k d below)
      | inr from ↦
          rw (le-leb a k from)
          (get_or-append_right (take a xs) (ys ++ drop (length ys) (drop a xs)) a k d front from
          ∙ elim (cases_lt (k - a) (length ys)) [
            | inl inside ↦ rw (lt-ltb k (a + length ys) (omega arith)) (get_or_append_left ys _ d (k - a) inside)
            | inr past ↦
                rw (le-ltb k (a + length ys) (omega arith))
                (get_or-append_right ys (drop (length ys) (drop a xs)) (length ys) (k - a) d refl past
                ∙ get_or-drop (length ys) (drop a xs) (k - a - length ys) d
                ∙ get_or-drop a xs (length ys + (k - a - length ys)) d
                ∙ ap (λ (j : ℕ). get_or xs j d) (omega arith))
          ])
    ]

module _ {C : Type 0} (l : Layer C) (g : Glyph C) where
  pub length-put : (row : List C) (from : ℕ) (new : List C) → length (put_row l g row from new) ≡ length row
  unfolding put_row
  length-put row from new = length-map-range_with_len (put_at l g row from new) 0 (length row)

  pub get_or-put : (row : List C) (from : ℕ) (new : List C) (k : ℕ) (d : C) → k < length row → get_or (put_row l g row from new) k d ≡ put_at l g row from new k
  unfolding put_row
  get_or-put row from new k d h = get_or-map-range_with_len (put_at l g row from new) 0 (length row) k k d h (omega arith)

  module _ (row : List C) (from : ℕ) (new : List C) (some : 0 < length new) (inside : from + length new ≤ length row) where
    -- the cell to the left of what is put, and the one to its right, are blanked just where they lose their other half
    abbrev pub left_test : Bool
    left_test = ltb 0 from && holds g.right (slice_get row from)

    abbrev pub right_test : Bool
    right_test = holds g.left (slice_get row (from + length new - 1))

    blanked_left : (k : ℕ) → k < from → (left_test && eqb (from - 1) k) ≡ loses_right g row from (length new) k
    blanked_left k h =
        elim (cases_eq from (suc k)) [
          | inl e ↦ let same : holds g.right (slice_get row from) ≡ holds g.right (slice_get row (suc k)) = ap (λ (j : ℕ). holds g.right (slice_get row j)) e in grind (arith, nat_tests)
          | inr ne ↦ grind (arith, nat_tests)
        ]

    blanked_right : (k : ℕ) → from + length new ≤ k → (right_test && eqb (from + length new) k) ≡ loses_left g row from (length new) k
    blanked_right zero h = absurd (omega arith)
    blanked_right (suc k) h =
        elim (cases_eq (from + length new) (suc k)) [
          | inl e ↦ let same : right_test ≡ holds g.left (slice_get row k) = ap (λ (j : ℕ). holds g.left (slice_get row j)) (omega arith) in grind (arith, nat_tests)
          | inr ne ↦ grind (arith, nat_tests)
        ]

    -- what two blanks leave of the row, by columns
    two : (lb rb : Bool) (r s : List C) → lb ≡ left_test → rb ≡ right_test → r ≡ cond lb (set row (from - 1) l.blank) row → s ≡ cond rb (set r (from + length new) l.blank) r → (k : ℕ) (d : C) → k < length row → get_or s k d ≡ cond (right_test && eqb (from + length new) k) l.blank (cond (left_test && eqb (from - 1) k) l.blank (get_or row k d))
    two lb rb r s p q e f k d h =
        let inside-r : k < length r = omega (arith, ap length e, length_set_if lb row (from - 1) l.blank) in
        ap (λ (xs : List C). get_or xs k d) f
        ∙ get_or_set_if rb r (from + length new) l.blank k d inside-r
        ∙ ap (λ (b : Bool). cond (b && eqb (from + length new) k) l.blank (get_or r k d)) q
        ∙ ap (cond (right_test && eqb (from + length new) k) l.blank)
        (ap (λ (xs : List C). get_or xs k d) e ∙ get_or_set_if lb row (from - 1) l.blank k d h ∙ ap (λ (b : Bool). cond (b && eqb (from - 1) k) l.blank (get_or row k d)) p)

    -- what two blanks beside it, where asked for, leave of the row; the cells put come last
    module _ (s : List C) (two : (k : ℕ) (d : C) → k < length row → get_or s k d ≡ cond (right_test && eqb (from + length new) k) l.blank (cond (left_test && eqb (from - 1) k) l.blank (get_or row k d))) where
      put_here : (k : ℕ) (d : C) → k < length row → cond (among from (length new) k) (get_or new (k - from) d) (get_or s k d) ≡ put_at l g row from new k
      put_here k d h =
          let at = two k d h in
          let any = get_or_default row k d l.blank h in
          elim (cases_lt k from) [
            | inl below ↦ let lost = blanked_left k below in grind (arith, nat_tests)
            | inr up ↦
                elim (cases_lt k (from + length new)) [
                  | inl put ↦ let new-any = get_or_default new (k - from) d l.blank (omega arith) in grind (arith, nat_tests)
                  | inr past ↦ let lost = blanked_right k past in grind (arith, nat_tests)
                ]
          ]

    -- the three writes: two blanks beside the cells where asked for, the right one only inside the row, then the cells
    pub written : (end : ℕ) (lb rb : Bool) (r s : List C) → end ≡ from + length new → lb ≡ left_test → rb ≡ (ltb end (length row) && holds g.left (slice_get row (end - 1))) → r ≡ cond lb (set row (from - 1) l.blank) row → s ≡ cond rb (set r end l.blank) r → put_mid from (length new) s new ≡ put_row l g row from new
    written end lb rb r s stop p q e f =
        let short : length r ≡ length row = ap length e ∙ length_set_if lb row (from - 1) l.blank in
        let inside-row : rb ≡ (ltb (from + length new) (length row) && right_test) = rw (sym stop) q in
        let blanked : s ≡ cond right_test (set r (from + length new) l.blank) r =
        (rw stop at f) ∙ rw inside-row (elim (cases_lt (from + length new) (length row)) [
          | inl k ↦ rw (lt-ltb (from + length new) (length row) k) refl
          | inr k ↦ rw (le-ltb (from + length new) (length row) k, set_past r (from + length new) l.blank (omega arith)) (cond_both right_test r r (λ (xs : List C). r ≡ xs) (λ _. refl) (λ _. refl))
        ]) in
        let long : length s ≡ length row = ap length blanked ∙ length_set_if right_test r (from + length new) l.blank ∙ short in
        let room : from + length new ≤ length s = omega arith in
        same_lists _ _ (length-put_mid from s new room ∙ long ∙ sym (length-put row from new))
        (λ k d h. let within : k < length row = omega (arith, length-put_mid from s new room) in
        get_or-put_mid from s new k d room ∙ put_here s (two lb right_test r s p refl e blanked) k d within ∙ sym (get_or-put row from new k d within))
