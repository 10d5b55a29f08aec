-- House widths: the ranges of characters that take one column and two; every other number takes none.
use Rattle.std.specs.Prelude.{ℕ, Bool, cond, ◌&&◌, ◌||◌, nat_le}
use Rattle.cells.specs.declared.widths.Width.{Width}
use Rattle.cells.specs.declared.widths.Width.TheVariants.{Zero, One, Two}

-- the columns that each width stands for
abbrev pub columns_of : Width → ℕ
columns_of Zero = 0
columns_of One = 1
columns_of Two = 2

-- low to high, both included
abbrev pub within : ℕ → ℕ → ℕ → Bool
within low high c = nat_le low c && nat_le c high

abbrev pub is_narrow : ℕ → Bool
is_narrow c = within 0x20 0x7E c || within 0xAE 0x2FF c

abbrev pub is_wide : ℕ → Bool
is_wide c = within 0x4E00 0x9FFF c || (within 0xAC00 0xD7A3 c || within 0xFF01 0xFF60 c)

abbrev pub width_of : ℕ → Width
width_of c = cond (is_narrow c) One (cond (is_wide c) Two Zero)
