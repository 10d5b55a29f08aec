-- What holds of every put, whatever stood in the grid.
use Rattle.std.specs.Prelude.{◌≡◌, ℕ, suc, ◌+◌, ◌<◌, ◌⊎◌, List, length, Result, OnOk, ◌≢◌}
use Rattle.std.specs.List.{slice_get}
use Rattle.faults.specs.declared.Fault.{Fault}
use Rattle.cells.specs.Kinds.{Layer, Glyph}
use Rattle.cells.specs.Rows.{Whole}
use Rattle.put_rule.specs.Grids.{row_at}
use Rattle.grids.specs.GridViews.{grid_rows}
use Rattle.grids.specs.declared.grids.Grid.{Grid}

pub record PutLaws {C : Type 0} (l : Layer C) (g : Glyph C) (old new : List (List C)) (row column : ℕ) (cells : List C) : Type 0 where
  -- whole cells leave whole rows whole
  pub whole : Whole l g cells → (k : ℕ) → Whole l g (row_at old k) → Whole l g (row_at new k)
  -- no other row changes
  pub other_rows : (k : ℕ) → (k ≢ row) → row_at new k ≡ row_at old k
  -- in the row, besides what was put, at most the cell to its left and the one to its right change
  pub beside : (j : ℕ) → (suc j < column) ⊎ (column + length cells < j) → slice_get (row_at new row) j ≡ slice_get (row_at old row) j

-- they hold wherever the put is accepted
abbrev pub Lawfully : {C : Type 0} → Layer C → Glyph C → Grid C → Grid C → ℕ → ℕ → List C → Result Unit Fault → Type 0
Lawfully l g t u row column cells r = OnOk r (PutLaws l g (grid_rows t) (grid_rows u) row column cells)
