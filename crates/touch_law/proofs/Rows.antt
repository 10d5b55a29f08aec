-- A row of the picture changes only beside raw cells that change.
use Rattle.std.proofs.Common.{◌≡◌, ℕ, zero, suc, ◌<◌, ◌≤◌, Bool, false, map, Some, None, Option, sym, refl, ap, ◌∙◌, inl, inr, arith}
use Rattle.std.specs.List.{slice_get, range_with_len}
use Rattle.std.proofs.lemmas.List.FromFn.{length-map-range_with_len, get_or-map-range_with_len}
use Rattle.std.proofs.lemmas.Option.{slice_get-get_or, slice_get_past}
use Rattle.std.proofs.lemmas.Bool.{cases_lt}
use Rattle.cells.specs.Kinds.{Layer, Glyph}
use Rattle.cells.specs.Rows.{before, after, mended_cell, mended}
use Rattle.cells.proofs.Mending.{slice_get-mended}
use Rattle.ranges.specs.Ranges.{Range, inside, hit_before, near, touched_row}
use Rattle.ranges.proofs.Touches.{touched_holds}

module _ {C : Type 0} (f : ℕ → C) (n : ℕ) where
  slice_get-row : (x : ℕ) → x < n → slice_get (map f (range_with_len 0 n)) x ≡ Some (f x)
  slice_get-row x h =
      slice_get-get_or (map f (range_with_len 0 n)) x (f x) (omega (arith, length-map-range_with_len f 0 n)) ∙ ap Some (get_or-map-range_with_len f 0 n x x (f x) h (omega arith))

  slice_get_row_past : (x : ℕ) → n ≤ x → slice_get (map f (range_with_len 0 n)) x ≡ None
  slice_get_row_past x h = slice_get_past (map f (range_with_len 0 n)) x (omega (arith, length-map-range_with_len f 0 n))

-- what is not near a hit spot has no hit spot beside it
near_false : (hit : ℕ → Bool) (c : ℕ) → near hit c ≡ false → (hit_before hit c ≡ false) × (hit c ≡ false) × (hit (suc c) ≡ false)
near_false hit c e = grind arith

module _ {C : Type 0} (l : Layer C) (g : Glyph C) (f h : ℕ → C) (n : ℕ) (hit : ℕ → Bool) (same : (x : ℕ) → x < n → hit x ≡ false → f x ≡ h x) where
  same_at : (x : ℕ) → hit x ≡ false → slice_get (map f (range_with_len 0 n)) x ≡ slice_get (map h (range_with_len 0 n)) x
  same_at x e =
      elim (cases_lt x n) [
        | inl b ↦ rw (slice_get-row f n x b, slice_get-row h n x b, same x b e) refl
        | inr b ↦ rw (slice_get_row_past f n x b, slice_get_row_past h n x b) refl
      ]

  same_before : (x : ℕ) → hit_before hit x ≡ false → before (map f (range_with_len 0 n)) x ≡ before (map h (range_with_len 0 n)) x
  same_before zero e = refl
  same_before (suc x) e = same_at x e

  -- a mended cell with no hit spot beside it is as before
  pub mended_same : (c : ℕ) → c < n → near hit c ≡ false → slice_get (mended l g (map f (range_with_len 0 n))) c ≡ slice_get (mended l g (map h (range_with_len 0 n))) c
  mended_same c b e =
      let none = near_false hit c e in
      slice_get-mended l g (map f (range_with_len 0 n)) c (f c) (slice_get-row f n c b)
      ∙ ap (λ (o : Option C). Some (mended_cell l g o (f c) (after (map f (range_with_len 0 n)) c))) (same_before c none.0)
      ∙ ap (λ (x : C). Some (mended_cell l g (before (map h (range_with_len 0 n)) c) x (after (map f (range_with_len 0 n)) c))) (same c b none.1)
      ∙ ap (λ (o : Option C). Some (mended_cell l g (before (map h (range_with_len 0 n)) c) (h c) o)) (same_at (suc c) none.2)
      ∙ sym (slice_get-mended l g (map h (range_with_len 0 n)) c (h c) (slice_get-row h n c b))

-- outside the touched range nothing is near a hit spot
pub outside_near : (n : ℕ) (old : Option Range) (hit : ℕ → Bool) (c : ℕ) → c < n → inside (touched_row n old hit) c ≡ false → near hit c ≡ false
outside_near n old hit c b e = let holds = touched_holds n old hit c b in grind arith

-- nothing is near no spot
pub near_none : (c : ℕ) → near (λ _. false) c ≡ false
near_none zero = refl
near_none (suc c) = refl

-- a row by how many columns it has
pub same_columns : {C : Type 0} (l : Layer C) (g : Glyph C) (f : ℕ → C) (m n c : ℕ) → m ≡ n → slice_get (mended l g (map f (range_with_len 0 m))) c ≡ slice_get (mended l g (map f (range_with_len 0 n))) c
same_columns l g f m n c e = ap (λ (k : ℕ). slice_get (mended l g (map f (range_with_len 0 k))) c) e
