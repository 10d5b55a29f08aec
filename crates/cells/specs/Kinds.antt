-- What a cell kind tells, and the laws that every kind for a terminal answers by.
use Rattle.std.specs.Prelude.{◌≡◌, ℕ, Bool, true, false}
use Rattle.cells.specs.Attributes.{are_attributes}
use Rattle.cells.specs.Widths.{width_of}
use Rattle.cells.specs.declared.widths.Width.{Width}
use Rattle.cells.specs.declared.widths.Width.TheVariants.{Zero, One, Two}
use Rattle.cells.specs.declared.kinds.Made.{Made}
use Rattle.cells.specs.declared.kinds.Made.TheVariants.{Nothing, Single, Pair, Singles}

-- what composing asks: which cells are clear, the cell of a spot that nothing covers, the cell that punching writes
pub record Layer (C : Type 0) : Type 0 where
  pub clear : C → Bool
  pub blank : C
  pub punched : C

-- what a terminal asks besides
pub record Glyph (C : Type 0) : Type 0 where
  pub drawable : C → Bool
  pub single : C → Bool
  pub left : C → Bool
  pub right : C → Bool
  pub belong : C → C → Bool
  pub make : ℕ → ℕ → Made C

abbrev pub PunchedIsClear : {C : Type 0} → Layer C → Type 0
PunchedIsClear l = l.clear l.punched ≡ true

-- a drawable cell that is a whole character of one column
pub record DrawableSingle {C : Type 0} (g : Glyph C) (c : C) : Type 0 where
  pub drawable : g.drawable c ≡ true
  pub single : g.single c ≡ true

-- what comes of a character of each width: a single; a pair of halves or two singles; nothing
abbrev pub MadeFor : {C : Type 0} → Glyph C → Width → Made C → Type 0
MadeFor g Zero Nothing = Unit {0}
MadeFor g Zero (Single c) = ⊥
MadeFor g Zero (Pair c d) = ⊥
MadeFor g Zero (Singles c d) = ⊥
MadeFor g One Nothing = ⊥
MadeFor g One (Single c) = DrawableSingle g c
MadeFor g One (Pair c d) = ⊥
MadeFor g One (Singles c d) = ⊥
MadeFor g Two Nothing = ⊥
MadeFor g Two (Single c) = ⊥
MadeFor g Two (Pair c d) = g.belong c d ≡ true
MadeFor g Two (Singles c d) = DrawableSingle g c × DrawableSingle g d

-- the laws
pub record Lawful {C : Type 0} (l : Layer C) (g : Glyph C) : Type 0 where
  -- the blank is a drawable single
  pub blank_drawable : g.drawable l.blank ≡ true
  pub blank_single : g.single l.blank ≡ true
  -- a cell is at most one of single, left and right
  pub single_not_left : (c : C) → g.single c ≡ true → g.left c ≡ false
  pub single_not_right : (c : C) → g.single c ≡ true → g.right c ≡ false
  pub left_not_right : (c : C) → g.left c ≡ true → g.right c ≡ false
  -- a drawable cell is one of them
  pub drawable_some : (c : C) → g.drawable c ≡ true → g.single c ≡ false → g.left c ≡ false → g.right c ≡ true
  -- no clear cell is drawable
  pub clear_undrawable : (c : C) → l.clear c ≡ true → g.drawable c ≡ false
  -- halves that belong together are a drawable left and a drawable right
  pub belong_left : (c d : C) → g.belong c d ≡ true → (g.drawable c ≡ true) × (g.left c ≡ true)
  pub belong_right : (c d : C) → g.belong c d ≡ true → (g.drawable d ≡ true) × (g.right d ≡ true)
  -- a half has at most one other that belongs to it
  pub one_right : (c d e : C) → g.belong c d ≡ true → g.belong c e ≡ true → d ≡ e
  pub one_left : (c d e : C) → g.belong c e ≡ true → g.belong d e ≡ true → c ≡ d
  -- what is made is drawable, a pair belonging together; attributes above 15 make nothing
  pub makes : (c a : ℕ) → are_attributes a ≡ true → MadeFor g (width_of c) (g.make c a)
  pub makes_nothing : (c a : ℕ) → are_attributes a ≡ false → g.make c a ≡ Nothing
