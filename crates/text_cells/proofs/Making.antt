-- A drawable single, and halves that belong together, are what their character makes.
use Rattle.std.proofs.Common.{◌≡◌, ℕ, ◌<◌, ◌≤◌, true, false, ◌⊎◌, sym, refl, ap, ◌∙◌, ap₂, inl, arith}
use Rattle.std.proofs.lemmas.Bool.{both_ways, and_parts, cond-true}
use Rattle.std.proofs.lemmas.Bool.Decides.{nat_tests}
use Rattle.cells.specs.Attributes.{are_attributes}
use Rattle.cells.specs.Widths.{width_of}
use Rattle.cells.specs.declared.widths.Width.{Width}
use Rattle.cells.specs.declared.widths.Width.TheVariants.{Zero, One, Two}
use Rattle.cells.specs.declared.kinds.Made.TheVariants.{Nothing, Single as MadeSingle, Pair as MadePair}
use Rattle.text_cells.specs.declared.Part.{Part}
use Rattle.text_cells.specs.declared.Part.TheVariants.{Single, Left, Right, Clear}
use Rattle.text_cells.specs.declared.TextCell.{TextCell}
use Rattle.text_cells.specs.TextCells.{text, is_single, fits_width, drawable, belong, make, make_for}
use Rattle.text_cells.specs.Laws.{halves, left_part, right_part, same_cell}

single_part : (p : Part) → is_single p ≡ true → p ≡ Single
single_part Single e = refl
single_part Left e = absurd (both_ways false refl e)
single_part Right e = absurd (both_ways false refl e)
single_part Clear e = absurd (both_ways false refl e)

-- the width that a drawable part asks for
one_wide : (w : Width) → fits_width Single w ≡ true → w ≡ One
one_wide Zero e = absurd (both_ways false refl e)
one_wide One e = refl
one_wide Two e = absurd (both_ways false refl e)

two_wide : (w : Width) → fits_width Left w ≡ true → w ≡ Two
two_wide Zero e = absurd (both_ways false refl e)
two_wide One e = absurd (both_ways false refl e)
two_wide Two e = refl

made_as : (c a : ℕ) (w : Width) → are_attributes a ≡ true → width_of c ≡ w → make c a ≡ make_for w c a
made_as c a w fit e = cond-true (are_attributes a) (make_for (width_of c) c a) Nothing fit ∙ ap (λ (x : Width). make_for x c a) e

-- where a character that takes columns lies: no control, below 0x10000, no surrogate
pub record Shown (c : ℕ) : Type 0 where
  pub from : 32 ≤ c
  pub to : c < 65536
  pub scalar : (c < 55296) ⊎ (57344 ≤ c)

one_shown : (c : ℕ) → width_of c ≡ One → Shown c
one_shown c e =
    let to : c < 768 = grind (arith, nat_tests) in
    record { from = grind (arith, nat_tests); to = omega arith; scalar = inl (omega arith) }

two_shown : (c : ℕ) → width_of c ≡ Two → Shown c
two_shown c e = record { from = grind (arith, nat_tests); to = grind (arith, nat_tests); scalar = grind (arith, nat_tests) }

pub record SingleMade (c : TextCell) : Type 0 where
  pub attributes : are_attributes c.attributes ≡ true
  pub shown : Shown c.character
  pub made : make c.character c.attributes ≡ MadeSingle c

pub single_made : (c : TextCell) → drawable c ≡ true → is_single c.part ≡ true → SingleMade c
single_made c d e =
    let parts = and_parts (are_attributes c.attributes) (fits_width c.part (width_of c.character)) d in
    let part = single_part c.part e in
    let wide = one_wide (width_of c.character) (ap (λ (p : Part). fits_width p (width_of c.character)) (sym part) ∙ parts.1) in
    record {
      attributes = parts.0;
      shown = one_shown c.character wide;
      made = made_as c.character c.attributes One parts.0 wide ∙ ap (λ (p : Part). MadeSingle (text c.character p c.attributes)) (sym part);
    }

pub record PairMade (c d : TextCell) : Type 0 where
  pub attributes : are_attributes c.attributes ≡ true
  pub shown : Shown c.character
  pub made : make c.character c.attributes ≡ MadePair c d

pub pair_made : (c d : TextCell) → belong c d ≡ true → PairMade c d
pair_made c d e =
    let h = halves c d e in
    let parts = and_parts (are_attributes c.attributes) (fits_width c.part (width_of c.character)) h.left_drawable in
    let left = left_part c.part h.left in
    let right = right_part d.part h.right in
    let wide = two_wide (width_of c.character) (ap (λ (p : Part). fits_width p (width_of c.character)) (sym left) ∙ parts.1) in
    let is_c : text c.character Left c.attributes ≡ c = ap (λ (p : Part). text c.character p c.attributes) (sym left) in
    let is-d : text c.character Right c.attributes ≡ d = same_cell (text c.character Right c.attributes) d h.character (sym right) h.attributes in
    record {
      attributes = parts.0;
      shown = two_shown c.character wide;
      made = made_as c.character c.attributes Two parts.0 wide ∙ ap₂ (λ (x y : TextCell). MadePair x y) is_c is-d;
    }
