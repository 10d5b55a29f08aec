-- A line without its end.
use Rattle.std.specs.Prelude.{ℕ, ◌-◌, Bool, cond, List, length, take, ◌==◌, slice_index}

-- is the byte that many places from the line's end the one given?
abbrev pub from_end : List ℕ → ℕ → ℕ → Bool
from_end line places byte = slice_index line (length line - places) == byte

-- after "\r\n" two bytes less, after "\n" alone one; a line of "\n" alone has no byte before it that could be "\r"
abbrev pub content_of : List ℕ → List ℕ
content_of line =
    cond (from_end line 1 10) (cond (from_end line 2 13) (take (length line - 2) line) (take (length line - 1) line)) line
