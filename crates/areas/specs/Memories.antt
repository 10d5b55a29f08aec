-- Memory, cell by cell.
use Rattle.std.specs.Prelude.{ℕ, List, map, length}
use Rattle.std.specs.List.{range_with_len}

-- memory as long as another, with a cell for each address
unfoldable pub by_address : {C : Type 0} → List C → (ℕ → C) → List C
by_address memory cell = map cell (range_with_len 0 (length memory))
