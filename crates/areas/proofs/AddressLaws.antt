-- The addresses of an area.
use Rattle.std.proofs.Common.{◌≡◌, ℕ, zero, suc, ◌+◌, ◌-◌, ◌*◌, ◌<◌, ◌≤◌, true, false, ◌||◌, refl, inl, inr, mul-le-mul_right, suc-mul, zero-mul, arith}
use Rattle.std.proofs.lemmas.Bool.{both_ways, or_cases}
use Rattle.std.proofs.lemmas.Bool.Decides.{nat_tests}
use Rattle.areas.specs.Addresses.{in_span, in_rows}

-- some row of those below a height holds an address
abbrev pub SomeRow : ℕ → ℕ → ℕ → ℕ → ℕ → Type 0
SomeRow base pitch height width x = (row : ℕ) × (row < height) × (in_span (base + row * pitch) width x ≡ true)

next_row : (base pitch row : ℕ) → base + pitch + row * pitch ≡ base + suc row * pitch
next_row base pitch row = omega (arith, suc-mul row pitch)

pub rows_from : (base pitch height width x : ℕ) → SomeRow base pitch height width x → in_rows base pitch height width x ≡ true
unfolding in_rows
rows_from base pitch zero width x s = absurd (omega (arith, s.1))
rows_from base pitch (suc height) width x (zero, h, e) = grind (arith, nat_tests, zero-mul pitch)
rows_from base pitch (suc height) width x (suc row, h, e) =
    let k = rows_from (base + pitch) pitch height width x (row, omega arith, grind (arith, nat_tests, next_row base pitch row)) in grind (arith, nat_tests)

pub rows_some : (base pitch height width x : ℕ) → in_rows base pitch height width x ≡ true → SomeRow base pitch height width x
unfolding in_rows
rows_some base pitch zero width x t = absurd (both_ways false refl t)
rows_some base pitch (suc height) width x t =
    elim (or_cases (in_span base width x) (in_rows (base + pitch) pitch height width x) t) [
      | inl u ↦ (zero, omega arith, grind (arith, nat_tests, zero-mul pitch))
      | inr u ↦ let s = rows_some (base + pitch) pitch height width x u in (suc s.0, omega (arith, s.1), grind (arith, nat_tests, next_row base pitch s.0, s.2))
    ]

-- one row more at the end
rows_suc : (base pitch height width x : ℕ) → in_rows base pitch (suc height) width x ≡ (in_rows base pitch height width x || in_span (base + height * pitch) width x)
unfolding in_rows
rows_suc base pitch zero width x = grind (arith, nat_tests, zero-mul pitch)
rows_suc base pitch (suc height) width x = grind (arith, nat_tests, rows_suc (base + pitch) pitch height width x, next_row base pitch height)

pub rows_push : (base pitch height width x : ℕ) → in_rows base pitch (height + 1) width x ≡ (in_rows base pitch height width x || in_span (base + height * pitch) width x)
rows_push base pitch height width x = grind (arith, rows_suc base pitch height width x)

-- one row is a span
pub one_row : (base pitch width x : ℕ) → in_rows base pitch 1 width x ≡ in_span base width x
unfolding in_rows
one_row base pitch width x = grind (arith, nat_tests)

-- no rows hold no address
pub no_row : (base pitch width x : ℕ) → in_rows base pitch 0 width x ≡ false
unfolding in_rows
no_row base pitch width x = refl

-- a row of an area ends no later than the last
pub row_end : (base pitch height width row end : ℕ) → row < height → base + (height - 1) * pitch + width ≤ end → base + row * pitch + width ≤ end
row_end base pitch height width row end h e = omega (arith, mul-le-mul_right pitch (let k : row ≤ height - 1 = omega arith in k))

-- every address of an area lies below its end
pub rows_below : (base pitch height width x end : ℕ) → base + (height - 1) * pitch + width ≤ end → in_rows base pitch height width x ≡ true → x < end
rows_below base pitch height width x end e t =
    let s = rows_some base pitch height width x t in
    grind (arith, nat_tests, s.2, row_end base pitch height width s.0 end s.1 e)
