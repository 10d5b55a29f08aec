-- Cells read one after another, until there is none.
use Rattle.std.proofs.Common.{◌≡◌, ℕ, ◌+◌, List, [], ◌∷◌, ◌++◌, take, Some, None, sym, ap, ◌∙◌, inl, inr}
use Rattle.std.specs.List.{slice_get}
use Rattle.std.proofs.lemmas.List.{take_more, take_all}
use Rattle.std.proofs.lemmas.Option.{slice_get_within, slice_get_cases, get_or_from_slice_get}

pub more_read : {C : Type 0} (row cells : List C) (n : ℕ) (c : C) → cells ≡ take n row → Some c ≡ slice_get row n → cells ++ c ∷ [] ≡ take (n + 1) row
more_read {C} row cells n c e h =
    ap (λ (xs : List C). xs ++ c ∷ []) e ∙ ap (λ (d : C). take n row ++ d ∷ []) (sym (get_or_from_slice_get row n c c (sym h)))
    ∙ sym (take_more row n c (slice_get_within row n c (sym h)))

pub all_read : {C : Type 0} (row cells : List C) (n : ℕ) → cells ≡ take n row → None ≡ slice_get row n → cells ≡ row
all_read row cells n e h = elim (slice_get_cases row n).1 [ inl p ↦ absurd (cc) | inr p ↦ e ∙ take_all n row p.0 ]
