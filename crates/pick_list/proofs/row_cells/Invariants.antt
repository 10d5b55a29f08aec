-- The first cells of the row.
use Rattle.std.proofs.Common.{◌≡◌, ◌-◌, length, take, vec_items, vec_len}
use Rattle.put_rule.specs.Grids.{row_at}
use Rattle.grids.specs.GridViews.{grid_rows}
use Rattle.pick_list.proofs.row_cells.Given as goal

abbrev pub invariant-loop-cell : goal.invariant-loop-cell
invariant-loop-cell g l = (l.grid ≡ l.fn.grid) × (vec_items l.cells ≡ take (vec_len l.cells) (row_at (grid_rows l.fn.grid) l.row))

abbrev pub decreases-loop-cell : goal.decreases-loop-cell
decreases-loop-cell g l = length (row_at (grid_rows l.fn.grid) l.row) - vec_len l.cells
