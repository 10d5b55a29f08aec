-- A number of a list moved to the end or to the front of the first ones, by a rotation of a part.
use Rattle.std.proofs.Common.{◌≡◌, ℕ, zero, suc, ◌+◌, ◌-◌, ◌<◌, ◌≤◌, List, [], ◌∷◌, ◌++◌, length, get_or, take, drop, sym, refl, ap, ◌∙◌, ap₂, add-one, arith}
use borrow.Rule.Slice.PartMut.{put_mid, post_of}
use Rattle.std.proofs.lemmas.List.{length-take, length-take-le, take-append-drop, take_at, length-drop, drop-drop, get_or-take, get_or-drop}
use Rattle.std.proofs.lemmas.Grind.{common_steps}
use Rattle.std.specs.List.{remove}
use Rattle.std.proofs.lemmas.List.Edits.{remove-append_left, length-remove}
use Rattle.std.proofs.lemmas.Slice.{take-put_mid, between_is, first_rest}

-- a front that reaches past the first list
take_past : (n : ℕ) (xs ys : List ℕ) → length xs ≤ n → take n (xs ++ ys) ≡ xs ++ take (n - length xs) ys
take_past n [] ys h = ap (λ (k : ℕ). take k ys) (omega arith)
take_past zero (x ∷ xs) ys h = absurd (omega arith)
take_past (suc n) (x ∷ xs) ys h = ap (λ (zs : List ℕ). x ∷ zs) (take_past n xs ys (omega arith) ∙ ap (λ (k : ℕ). xs ++ take k ys) (omega arith))

-- the first of a list
take-first : (xs : List ℕ) → 0 < length xs → take 1 xs ≡ get_or xs 0 0 ∷ []
take-first [] h = absurd (omega arith)
take-first (x ∷ xs) h = refl

module _ (xs : List ℕ) (place end : ℕ) (ys : List ℕ) (within : place < end) (long : end ≤ length xs) where
  tail_length : length (drop place (take end xs)) ≡ end - place
  tail_length = length-drop place (take end xs) ∙ ap (λ (n : ℕ). n - place) (length-take-le end xs long)

  tail_first : take 1 (drop place (take end xs)) ≡ get_or (take end xs) place 0 ∷ []
  tail_first = grind (arith, common_steps, first_rest, get_or-drop)

  pub rotated_to_end : ys ≡ drop 1 (take (end - place) (drop place xs)) ++ take 1 (take (end - place) (drop place xs)) → take end (put_mid place (end - place) xs ys) ≡ remove (take end xs) place ++ get_or (take end xs) place 0 ∷ []
  rotated_to_end e =
      let is : ys ≡ drop (suc place) (take end xs) ++ get_or (take end xs) place 0 ∷ [] = e ∙ ap (λ (t : List ℕ). drop 1 t ++ take 1 t) (between_is xs place end) ∙ ap₂ ◌++◌ (drop-drop 1 place (take end xs) ∙ ap (λ (k : ℕ). drop k (take end xs)) (add-one place)) tail_first in
      let size : length ys ≡ end - place = ap length is ∙ grind (arith, common_steps) in
      take-put_mid place (end - place) xs ys end (omega arith) (omega arith) ∙ grind (arith, common_steps)

  pub rotated_to_front : ys ≡ drop (length (take (place + 1 - 0) (drop 0 xs)) - 1) (take (place + 1 - 0) (drop 0 xs)) ++ take (length (take (place + 1 - 0) (drop 0 xs)) - 1) (take (place + 1 - 0) (drop 0 xs)) → take end (ys ++ post_of 0 (place + 1 - 0) xs) ≡ get_or (take end xs) place 0 ∷ remove (take end xs) place
  rotated_to_front e =
      let k : place + 1 - 0 ≡ suc place = omega arith in
      let n : length (take (place + 1 - 0) xs) - 1 ≡ place = simp length-take (omega arith) in
      let is : ys ≡ get_or xs place 0 ∷ take place xs = rw (n, k) at e ∙ grind (arith, common_steps) in
      let long_place : place < length (take end xs) = simp length-take (omega arith) in
      let gone : remove xs place ≡ remove (take end xs) place ++ drop end xs = ap (λ (zs : List ℕ). remove zs place) (sym (take-append-drop end xs)) ∙ remove-append_left (take end xs) (drop end xs) place long_place in
      ap (λ (zs : List ℕ). take end (zs ++ drop (place + 1 - 0) xs)) is
      ∙ rw (k, gone) (take_at (get_or xs place 0 ∷ remove (take end xs) place) (drop end xs) end (omega (arith, length-remove (take end xs) place long_place, length-take-le end xs long)) ∙ ap (λ (x : ℕ). x ∷ remove (take end xs) place) (sym (get_or-take end xs place 0 within)))
