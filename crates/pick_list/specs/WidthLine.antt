-- The line that gives the width of a pick list's rows.
use Rattle.std.specs.Prelude.{◌≡◌, ℕ, ◌≤◌, List}
use Rattle.std.specs.Str.Parse.{IsNumeral, digits_value, without_leading_plus}

-- nothing but decimal digits, after one plus sign if there is one, that write a number from 1 to 128
pub record IsWidth (line : List ℕ) (n : ℕ) : Type 0 where
  pub numeral : IsNumeral 10 (without_leading_plus line)
  pub number : n ≡ digits_value 10 (without_leading_plus line)
  pub positive : 1 ≤ n
  pub bounded : n ≤ 128
