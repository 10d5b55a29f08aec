-- The byte cell keeps the laws of a kind for a terminal.
use Rattle.std.specs.Prelude.{◌≡◌, ℕ, ◌≤◌, true, false, cond, nat_le, refl}
use Rattle.std.proofs.Common.{ap, arith}
use Rattle.std.proofs.lemmas.Bool.{both_ways, eqb-true, cond-true, cond-false}
use Rattle.std.proofs.lemmas.Bool.Decides.{nat_tests}
use Rattle.cells.specs.Attributes.{are_attributes}
use Rattle.cells.specs.Widths.{width_of, within}
use Rattle.cells.specs.Kinds.{Lawful, MadeFor}
use Rattle.cells.specs.declared.widths.Width.{Width}
use Rattle.cells.specs.declared.widths.Width.TheVariants.{Zero, One, Two}
use Rattle.cells.specs.declared.kinds.Made.TheVariants.{Nothing}
use Rattle.byte_cells.specs.ByteCells.{byte_cell, drawable, make, make_for, byte_layer, byte_glyph}

-- a character of width 1 begins at 32
narrow_from : (c : ℕ) → width_of c ≡ One → 32 ≤ c
narrow_from c e = grind (arith, nat_tests)

made_for : (w : Width) (c : ℕ) → width_of c ≡ w → MadeFor byte_glyph w (make_for w c)
made_for Zero c e = tt
made_for One c e =
    let h : drawable (byte_cell (cond (nat_le c 126) c 63)) ≡ true = let from = narrow_from c e in grind (arith, nat_tests) in
    record { drawable = h; single = h }
made_for Two c e = (record { drawable = refl; single = refl }, record { drawable = refl; single = refl })

makes : (c a : ℕ) → are_attributes a ≡ true → MadeFor byte_glyph (width_of c) (make c a)
makes c a h =
    rw (cond-true (are_attributes a) (make_for (width_of c) c) Nothing h) (made_for (width_of c) c refl)

pub lawful : Lawful byte_layer byte_glyph
lawful = record {
  blank_drawable = refl;
  blank_single = refl;
  single_not_left = λ c e. refl;
  single_not_right = λ c e. refl;
  left_not_right = λ c e. refl;
  drawable_some = λ c e f. absurd (both_ways (drawable c) f e);
  clear_undrawable = λ c e. ap (within 32 126) (eqb-true c.byte 0 e);
  belong_left = λ c d e. absurd (both_ways false refl e);
  belong_right = λ c d e. absurd (both_ways false refl e);
  one_right = λ c d e p q. absurd (both_ways false refl p);
  one_left = λ c d e p q. absurd (both_ways false refl p);
  makes = makes;
  makes_nothing = λ c a h. cond-false (are_attributes a) _ Nothing h;
}
