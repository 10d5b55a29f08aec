-- What a byte cell tells of itself.
use Rattle.std.specs.Prelude.{ℕ, Bool, false, cond, ◌==◌, nat_le}
use Rattle.cells.specs.Attributes.{are_attributes}
use Rattle.cells.specs.Widths.{within, width_of}
use Rattle.cells.specs.Kinds.{Layer, Glyph}
use Rattle.cells.specs.declared.widths.Width.{Width}
use Rattle.cells.specs.declared.widths.Width.TheVariants.{Zero, One, Two}
use Rattle.cells.specs.declared.kinds.Made.{Made}
use Rattle.cells.specs.declared.kinds.Made.TheVariants.{Nothing, Single, Singles}
use Rattle.byte_cells.specs.declared.ByteCell.{ByteCell}

abbrev pub byte_cell : ℕ → ByteCell
byte_cell b = record { byte = b }

-- 32 to 126 are drawable, and singles; there are no halves
abbrev pub drawable : ByteCell → Bool
drawable c = within 32 126 c.byte

-- attributes are dropped; a character above 126 becomes "?", one of width 2 two of them
abbrev pub make_for : Width → ℕ → Made ByteCell
make_for Zero c = Nothing
make_for One c = Single (byte_cell (cond (nat_le c 126) c 63))
make_for Two c = Singles (byte_cell 63) (byte_cell 63)

abbrev pub make : ℕ → ℕ → Made ByteCell
make c a = cond (are_attributes a) (make_for (width_of c) c) Nothing

abbrev pub byte_layer : Layer ByteCell
byte_layer = record { clear = λ c. (c.byte == 0); blank = byte_cell 32; punched = byte_cell 0 }

abbrev pub byte_glyph : Glyph ByteCell
byte_glyph = record {
  drawable = drawable;
  single = drawable;
  left = λ _. false;
  right = λ _. false;
  belong = λ _ _. false;
  make = make;
}
