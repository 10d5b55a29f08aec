-- What a text cell tells of itself.
use Rattle.std.specs.Prelude.{ℕ, Bool, true, false, cond, ◌&&◌, ◌==◌}
use Rattle.cells.specs.Attributes.{are_attributes}
use Rattle.cells.specs.Widths.{width_of}
use Rattle.cells.specs.Kinds.{Layer, Glyph}
use Rattle.cells.specs.declared.widths.Width.{Width}
use Rattle.cells.specs.declared.widths.Width.TheVariants.{Zero, One, Two}
use Rattle.cells.specs.declared.kinds.Made.{Made}
use Rattle.cells.specs.declared.kinds.Made.TheVariants.{Nothing, Single as MadeSingle, Pair as MadePair}
use Rattle.text_cells.specs.declared.Part.{Part}
use Rattle.text_cells.specs.declared.Part.TheVariants.{Single, Left, Right, Clear}
use Rattle.text_cells.specs.declared.TextCell.{TextCell}

abbrev pub text : ℕ → Part → ℕ → TextCell
text c p a = record { character = c; part = p; attributes = a }

-- the part alone says which of the four a cell is
abbrev pub is_single : Part → Bool
is_single Single = true
is_single Left = false
is_single Right = false
is_single Clear = false

abbrev pub is_left : Part → Bool
is_left Single = false
is_left Left = true
is_left Right = false
is_left Clear = false

abbrev pub is_right : Part → Bool
is_right Single = false
is_right Left = false
is_right Right = true
is_right Clear = false

abbrev pub is_clear : Part → Bool
is_clear Single = false
is_clear Left = false
is_clear Right = false
is_clear Clear = true

-- a drawable single has a character of width 1, a drawable half one of width 2
abbrev pub fits_width : Part → Width → Bool
fits_width Single Zero = false
fits_width Single One = true
fits_width Single Two = false
fits_width Left Zero = false
fits_width Left One = false
fits_width Left Two = true
fits_width Right Zero = false
fits_width Right One = false
fits_width Right Two = true
fits_width Clear w = false

-- and attributes up to 15
abbrev pub drawable : TextCell → Bool
drawable c = are_attributes c.attributes && fits_width c.part (width_of c.character)

-- a drawable left and a drawable right half of equal character and attributes
abbrev pub belong : TextCell → TextCell → Bool
belong c d =
    is_left c.part && (is_right d.part && (drawable c && (drawable d && (c.character == d.character && c.attributes == d.attributes))))

-- what a character of each width makes
abbrev pub make_for : Width → ℕ → ℕ → Made TextCell
make_for Zero c a = Nothing
make_for One c a = MadeSingle (text c Single a)
make_for Two c a = MadePair (text c Left a) (text c Right a)

abbrev pub make : ℕ → ℕ → Made TextCell
make c a = cond (are_attributes a) (make_for (width_of c) c a) Nothing

abbrev pub text_layer : Layer TextCell
text_layer = record { clear = λ c. is_clear c.part; blank = text 32 Single 0; punched = text 0 Clear 0 }

abbrev pub text_glyph : Glyph TextCell
text_glyph = record {
  drawable = drawable;
  single = λ c. is_single c.part;
  left = λ c. is_left c.part;
  right = λ c. is_right c.part;
  belong = belong;
  make = make;
}
