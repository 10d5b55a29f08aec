-- The text cell keeps the laws of a kind for a terminal.
use Rattle.std.specs.Prelude.{◌≡◌, ℕ, true, false, refl}
use Rattle.std.proofs.Common.{sym, ap, ◌∙◌}
use Rattle.std.proofs.lemmas.Bool.{both_ways, and_parts, and_from, and_right, eqb-true, eq-eqb, cond-true, cond-false}
use Rattle.cells.specs.Attributes.{are_attributes}
use Rattle.cells.specs.Widths.{width_of}
use Rattle.cells.specs.Kinds.{Lawful, MadeFor}
use Rattle.cells.specs.declared.widths.Width.{Width}
use Rattle.cells.specs.declared.widths.Width.TheVariants.{Zero, One, Two}
use Rattle.cells.specs.declared.kinds.Made.TheVariants.{Nothing}
use Rattle.text_cells.specs.declared.Part.{Part}
use Rattle.text_cells.specs.declared.Part.TheVariants.{Single, Left, Right, Clear}
use Rattle.text_cells.specs.declared.TextCell.{TextCell}
use Rattle.text_cells.specs.TextCells.{text, is_single, is_left, is_right, is_clear, fits_width, drawable, belong, make, make_for, text_layer, text_glyph}

-- A part is at most one of single, left and right.
single_not_left : (p : Part) → is_single p ≡ true → is_left p ≡ false
single_not_left Single e = refl
single_not_left Left e = absurd (both_ways false refl e)
single_not_left Right e = refl
single_not_left Clear e = refl

single_not_right : (p : Part) → is_single p ≡ true → is_right p ≡ false
single_not_right Single e = refl
single_not_right Left e = refl
single_not_right Right e = absurd (both_ways false refl e)
single_not_right Clear e = refl

left_not_right : (p : Part) → is_left p ≡ true → is_right p ≡ false
left_not_right Single e = refl
left_not_right Left e = refl
left_not_right Right e = absurd (both_ways false refl e)
left_not_right Clear e = refl

-- What is no single and no left half has a width only as a right half.
fits_some : (p : Part) (w : Width) → fits_width p w ≡ true → is_single p ≡ false → is_left p ≡ false → is_right p ≡ true
fits_some Single w e s l = absurd (both_ways true s refl)
fits_some Left w e s l = absurd (both_ways true l refl)
fits_some Right w e s l = refl
fits_some Clear w e s l = absurd (both_ways false refl e)

clear_fits_none : (p : Part) (w : Width) → is_clear p ≡ true → fits_width p w ≡ false
clear_fits_none Single w e = absurd (both_ways false refl e)
clear_fits_none Left w e = absurd (both_ways false refl e)
clear_fits_none Right w e = absurd (both_ways false refl e)
clear_fits_none Clear w e = refl

-- A half's part is known.
pub left_part : (p : Part) → is_left p ≡ true → p ≡ Left
left_part Single e = absurd (both_ways false refl e)
left_part Left e = refl
left_part Right e = absurd (both_ways false refl e)
left_part Clear e = absurd (both_ways false refl e)

pub right_part : (p : Part) → is_right p ≡ true → p ≡ Right
right_part Single e = absurd (both_ways false refl e)
right_part Left e = absurd (both_ways false refl e)
right_part Right e = refl
right_part Clear e = absurd (both_ways false refl e)

-- What belonging halves have.
pub record Halves (c d : TextCell) : Type 0 where
  pub left : is_left c.part ≡ true
  pub right : is_right d.part ≡ true
  pub left_drawable : drawable c ≡ true
  pub right_drawable : drawable d ≡ true
  pub character : c.character ≡ d.character
  pub attributes : c.attributes ≡ d.attributes

pub halves : (c d : TextCell) → belong c d ≡ true → Halves c d
halves c d e =
    let h = and_parts _ _ e in
    let i = and_parts _ _ h.1 in
    let j = and_parts _ _ i.1 in
    let k = and_parts _ _ j.1 in
    let m = and_parts _ _ k.1 in
    record {
      left = h.0;
      right = i.0;
      left_drawable = j.0;
      right_drawable = k.0;
      character = eqb-true _ _ m.0;
      attributes = eqb-true _ _ m.1;
    }

pub same_cell : (c d : TextCell) → c.character ≡ d.character → c.part ≡ d.part → c.attributes ≡ d.attributes → c ≡ d
same_cell c d e f h = ap (λ (x : ℕ). text x c.part c.attributes) e ∙ ap (λ (p : Part). text d.character p c.attributes) f ∙ ap (text d.character d.part) h

one_right : (c d e : TextCell) → belong c d ≡ true → belong c e ≡ true → d ≡ e
one_right c d e p q =
    let h = halves c d p in
    let i = halves c e q in
    same_cell d e (sym h.character ∙ i.character) (right_part _ h.right ∙ sym (right_part _ i.right)) (sym h.attributes ∙ i.attributes)

one_left : (c d e : TextCell) → belong c e ≡ true → belong d e ≡ true → c ≡ d
one_left c d e p q =
    let h = halves c e p in
    let i = halves d e q in
    same_cell c d (h.character ∙ sym i.character) (left_part _ h.left ∙ sym (left_part _ i.left)) (h.attributes ∙ sym i.attributes)

-- What is made of a character of each width.
made_for : (w : Width) (c a : ℕ) → width_of c ≡ w → are_attributes a ≡ true → MadeFor text_glyph w (make_for w c a)
made_for Zero c a e h = tt
made_for One c a e h = record { drawable = and_from _ _ h (ap (fits_width Single) e); single = refl }
made_for Two c a e h =
    let l = and_from _ _ h (ap (fits_width Left) e) in
    let r = and_from _ _ h (ap (fits_width Right) e) in
    and_from _ _ l (and_from _ _ r (and_from _ _ (eq-eqb c c refl) (eq-eqb a a refl)))

makes : (c a : ℕ) → are_attributes a ≡ true → MadeFor text_glyph (width_of c) (make c a)
makes c a h =
    rw (cond-true (are_attributes a) (make_for (width_of c) c a) Nothing h) (made_for (width_of c) c a refl h)

pub lawful : Lawful text_layer text_glyph
lawful = record {
  blank_drawable = refl;
  blank_single = refl;
  single_not_left = λ c. single_not_left c.part;
  single_not_right = λ c. single_not_right c.part;
  left_not_right = λ c. left_not_right c.part;
  drawable_some = λ c e. fits_some c.part (width_of c.character) (and_parts _ _ e).1;
  clear_undrawable = λ c e. and_right _ _ (clear_fits_none c.part (width_of c.character) e);
  belong_left = λ c d e. let h = halves c d e in (h.left_drawable, h.left);
  belong_right = λ c d e. let h = halves c d e in (h.right_drawable, h.right);
  one_right = one_right;
  one_left = one_left;
  makes = makes;
  makes_nothing = λ c a h. cond-false (are_attributes a) _ Nothing h;
}
