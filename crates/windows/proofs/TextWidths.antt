-- The columns of a character.
use Rattle.std.proofs.Common.{◌≡◌, ◌≤◌, false, eqb, refl, arith}
use Rattle.cells.specs.Widths.{columns_of}
use Rattle.cells.specs.declared.widths.Width.{Width}
use Rattle.cells.specs.declared.widths.Width.TheVariants.{Zero, One, Two}

pub two_columns_at_most : (w : Width) → columns_of w ≤ 2
two_columns_at_most w = grind arith

pub some_column : (w : Width) → (w ≡ Zero → ⊥) → eqb (columns_of w) 0 ≡ false
some_column Zero h = absurd (h refl)
some_column One h = refl
some_column Two h = refl
