-- Why a call on windows is refused, in the order of the tests.
use Rattle.std.specs.Prelude.{ℕ, ◌+◌, ◌-◌, ◌*◌, Bool, not, ◌&&◌, ◌||◌, List, [], ◌∷◌, ◌++◌, length, Option, ◌==◌, nat_le, nat_lt}
use Rattle.faults.specs.declared.Fault.{Fault}
use Rattle.faults.specs.declared.Fault.TheVariants.{BadSize, TooManyWindows, CellCount, NoWindow, Outside, NoWidth, TooLong, TooSmallForBox, MemoryLength}
use Rattle.faults.specs.Refusals.{first}
use Rattle.places.specs.Places.{size, holds}
use Rattle.places.specs.declared.Spot.{Spot}
use Rattle.places.specs.declared.Size.{Size}
use Rattle.places.specs.declared.Rectangle.{Rectangle}
use Rattle.cells.specs.Widths.{within}
use Rattle.areas.specs.Addresses.{holds_part}
use Rattle.windows.specs.TextColumns.{has_no_width, text_columns}
use Rattle.windows.specs.Tables.{Table, is_window, area_of}

abbrev pub is_side : ℕ → Bool
is_side n = within 1 255 n

-- 15: window memory of another length than recorded, n cells
abbrev pub wrong_memory : Table → ℕ → Bool × Fault
wrong_memory t n = (not (n == t.memory), MemoryLength)

abbrev pub no_window : Table → ℕ → Bool × Fault
no_window t window = (not (is_window t window), NoWindow)

abbrev pub table_full : Table → Bool × Fault
table_full t = (nat_le 16 (length t.windows), TooManyWindows)

abbrev pub spot_outside : Table → ℕ → Spot → Bool
spot_outside t window at = not (holds (size (area_of t window).height (area_of t window).width) at)

-- how many columns are left in a window's row
abbrev pub row_rest : Table → ℕ → ℕ → ℕ
row_rest t window column = (area_of t window).width - column

abbrev pub make_refusal : Table → ℕ → Size → Option Fault
make_refusal t n z =
    first (wrong_memory t n ∷ (not (is_side z.rows && is_side z.columns), BadSize) ∷ table_full t ∷ (nat_lt t.memory (t.taken + z.rows * z.columns), CellCount) ∷ [])

abbrev pub part_tests : Table → ℕ → Rectangle → List (Bool × Fault)
part_tests t window p =
    no_window t window ∷ (p.height == 0 || (p.width == 0), BadSize) ∷ (not (holds_part (area_of t window) p.top p.left p.height p.width), Outside) ∷ []

abbrev pub part_refusal : Table → ℕ → Rectangle → Option Fault
part_refusal t window p = first (part_tests t window p)

abbrev pub share_refusal : Table → ℕ → Rectangle → Option Fault
share_refusal t window p = first (part_tests t window p ++ table_full t ∷ [])

abbrev pub area_refusal : Table → ℕ → ℕ → Option Fault
area_refusal t n window = first (wrong_memory t n ∷ no_window t window ∷ [])

abbrev pub write_refusal : Table → ℕ → ℕ → Spot → List ℕ → Option Fault
write_refusal t n window at text =
    first (wrong_memory t n ∷ no_window t window ∷ (spot_outside t window at, Outside) ∷ (has_no_width text, NoWidth) ∷ (nat_lt 255 (length text) || nat_lt (row_rest t window at.column) (text_columns text), TooLong) ∷ [])

abbrev pub punch_refusal : Table → ℕ → ℕ → Spot → ℕ → Option Fault
punch_refusal t n window at count =
    first (wrong_memory t n ∷ no_window t window ∷ (spot_outside t window at || nat_lt (row_rest t window at.column) count, Outside) ∷ [])

abbrev pub edge_refusal : Table → ℕ → ℕ → Option Fault
edge_refusal t n window =
    first (wrong_memory t n ∷ no_window t window ∷ (nat_lt (area_of t window).height 2 || nat_lt (area_of t window).width 2, TooSmallForBox) ∷ [])
