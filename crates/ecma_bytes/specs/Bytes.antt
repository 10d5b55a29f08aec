-- The bytes that a terminal of ECMA-48 sends for each operation.
use Rattle.std.specs.Prelude.{ℕ, ◌+◌, ◌-◌, ◌/◌, ◌%◌, cond, ◌&&◌, List, [], ◌∷◌, ◌++◌, Some, None, Option, ◌==◌, nat_le}
use Rattle.std.proofs.Math.Utf8.{encode}
use Rattle.places.specs.declared.Spot.{Spot}

-- a digit for each of these powers of ten that the number reaches, then the last digit
abbrev pub digits_from : List ℕ → ℕ → List ℕ
digits_from [] n = (48 + n % 10) ∷ []
digits_from (least ∷ powers) n = cond (nat_le least n) ((48 + n / least % 10) ∷ []) [] ++ digits_from powers n

-- a number up to 9999 in decimal, without leading zeros
abbrev pub number : ℕ → List ℕ
number n = digits_from (1000 ∷ 100 ∷ 10 ∷ []) n

-- ESC [ n C
abbrev pub right_bytes : ℕ → List ℕ
right_bytes n = 0x1B ∷ 0x5B ∷ (number n ++ (0x43 ∷ []))

-- ESC [ row ; column H, counted from 1
abbrev pub to_bytes : ℕ → ℕ → List ℕ
to_bytes row column = 0x1B ∷ 0x5B ∷ (number (row + 1) ++ (0x3B ∷ (number (column + 1) ++ (0x48 ∷ []))))

-- a move in the shortest form: nothing where the cursor is there, to the right in the row, else to the spot
abbrev pub move_bytes : Option Spot → ℕ → ℕ → List ℕ
move_bytes None row column = to_bytes row column
move_bytes (Some s) row column =
    cond (s.row == row && nat_le s.column column) (cond (s.column == column) [] (right_bytes (column - s.column))) (to_bytes row column)

-- ; and a digit, where the attribute is set
abbrev pub attribute_bytes : ℕ → ℕ → ℕ → List ℕ
attribute_bytes attributes bit digit = cond (attributes / bit % 2 == 1) (0x3B ∷ digit ∷ []) []

-- the same for each attribute and its digit, then m
abbrev pub set_bytes : ℕ → List (ℕ × ℕ) → List ℕ
set_bytes attributes [] = 0x6D ∷ []
set_bytes attributes (d ∷ digits) = attribute_bytes attributes d.0 d.1 ++ set_bytes attributes digits

-- ESC [ 0, then ;1 ;4 ;5 ;7 as set, then m
abbrev pub change_bytes : ℕ → List ℕ
change_bytes a = 0x1B ∷ 0x5B ∷ 0x30 ∷ set_bytes a ((1, 0x31) ∷ (2, 0x34) ∷ (4, 0x35) ∷ (8, 0x37) ∷ [])

-- nothing where the pen has the attributes already
abbrev pub pen_bytes : ℕ → ℕ → List ℕ
pen_bytes pen attributes = cond (pen == attributes) [] (change_bytes attributes)

-- a character with attributes, as UTF-8
abbrev pub put_bytes : ℕ → ℕ → ℕ → List ℕ
put_bytes pen character attributes = pen_bytes pen attributes ++ encode character
