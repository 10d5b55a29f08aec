-- At how many columns two rows differ.
use Rattle.std.specs.Prelude.{◌≡◌, ℕ, suc, ◌⊎◌, List, [], ◌∷◌, ◌≢◌}

-- the columns that both rows have count, one for each at which the cells are not equal
abbrev pub Differing : {C : Type 0} → List C → List C → ℕ → Type 0
Differing [] new n = n ≡ 0
Differing (c ∷ old) [] n = n ≡ 0
Differing (c ∷ old) (d ∷ new) n =
    ((c ≡ d) × Differing old new n) ⊎ ((c ≢ d) × ((m : ℕ) × (n ≡ suc m) × Differing old new m))
