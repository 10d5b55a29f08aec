-- How many columns a text takes.
use Rattle.std.specs.Prelude.{ℕ, Bool, List, sum_by, ◌==◌}
use Rattle.std.specs.List.{list_any}
use Rattle.cells.specs.Widths.{width_of, columns_of}

abbrev pub character_columns : ℕ → ℕ
character_columns character = columns_of (width_of character)

abbrev pub takes_no_column : ℕ → Bool
takes_no_column character = character_columns character == 0

-- is there a character that takes no column?
abbrev pub has_no_width : List ℕ → Bool
has_no_width text = list_any takes_no_column text

abbrev pub text_columns : List ℕ → ℕ
text_columns text = sum_by character_columns text
