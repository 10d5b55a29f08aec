-- Areas that end below an address.
use Rattle.std.proofs.Common.{◌≡◌, ℕ, ◌+◌, ◌-◌, ◌*◌, ◌<◌, ◌≤◌, true, sym, ap, mul-le-mul_right, add-mul, one-mul, arith}
use Rattle.std.proofs.lemmas.Bool.Decides.{nat_tests}
use Rattle.areas.specs.Addresses.{area, part_of, holds_part, ends_below}
use Rattle.areas.specs.declared.Area.{Area}

-- what it means that an area ends below an address
pub record Ends (end : ℕ) (a : Area) : Type 0 where
  pub tall : 0 < a.height
  pub wide : 0 < a.width
  pub apart : a.width ≤ a.pitch
  pub last : a.base + (a.height - 1) * a.pitch + a.width ≤ end

pub ends_from : (end : ℕ) (a : Area) → Ends end a → ends_below end a ≡ true
ends_from end a e = grind (arith, nat_tests, e.tall, e.wide, e.apart, e.last)

pub ends_facts : (end : ℕ) (a : Area) → ends_below end a ≡ true → Ends end a
ends_facts end a t = record {
  tall = grind (arith, nat_tests);
  wide = grind (arith, nat_tests);
  apart = grind (arith, nat_tests);
  last = grind (arith, nat_tests);
}

pub ends_later : (end more : ℕ) (a : Area) → end ≤ more → ends_below end a ≡ true → ends_below more a ≡ true
ends_later end more a h t = grind (arith, nat_tests)

all_rows : (height width : ℕ) → 0 < height → (height - 1) * width + width ≡ height * width
all_rows height width h = sym (let e : height * width ≡ ((height - 1) + 1) * width = ap (λ (n : ℕ). n * width) (omega arith) in omega (arith, e, add-mul (height - 1) 1 width, one-mul width))

-- cells after those taken make an area that ends with them
pub new_ends : (taken height width : ℕ) → 0 < height → 0 < width → ends_below (taken + height * width) (area taken width height width) ≡ true
new_ends taken height width h w = grind (arith, nat_tests, all_rows height width h)

-- a rectangle of an area ends no later
pub part_ends : (end row column height width : ℕ) (a : Area) → ends_below end a ≡ true → 0 < height → 0 < width → holds_part a row column height width ≡ true → ends_below end (part_of a row column height width) ≡ true
part_ends end row column height width a t h w inside =
    let low : row + (height - 1) ≤ a.height - 1 = grind (arith, nat_tests) in
    grind (arith, nat_tests, mul-le-mul_right a.pitch low, add-mul row (height - 1) a.pitch)
