-- The sizes that a terminal can have over a grid in memory.
use Rattle.std.specs.Prelude.{ℕ, ◌*◌, Bool, not, ◌&&◌, [], ◌∷◌, Option, ◌==◌, nat_le}
use Rattle.faults.specs.declared.Fault.{Fault}
use Rattle.faults.specs.declared.Fault.TheVariants.{BadSize, MemoryLength}
use Rattle.faults.specs.Refusals.{first}

-- 1 to the most rows, 1 to the most columns
abbrev pub within : ℕ → ℕ → ℕ → ℕ → Bool
within most_rows most_columns rows columns =
    (nat_le 1 rows && nat_le rows most_rows) && (nat_le 1 columns && nat_le columns most_columns)

-- why a size is refused over memory of that many cells, in the order of the tests
abbrev pub size_refusal : ℕ → ℕ → ℕ → ℕ → ℕ → Option Fault
size_refusal most_rows most_columns rows columns cells =
    first ((not (within most_rows most_columns rows columns), BadSize) ∷ (not (cells == rows * columns), MemoryLength) ∷ [])
