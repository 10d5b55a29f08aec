-- The rows above the loop's are drawn.
use Rattle.std.proofs.Common.{◌≡◌}
use Rattle.areas.specs.Addresses.{in_rows}
use Rattle.areas.specs.Memories.{by_address}
use Rattle.windows.specs.Cells.{drawn}
use Rattle.windows.proofs.drawing.draw_area.Given as goal

abbrev pub invariant-loop-row : goal.invariant-loop-row
invariant-loop-row g l = l.memory ≡ by_address l.initial.memory (drawn g.C.LayerCell.layer l.initial.memory (in_rows l.whole.area.base l.whole.area.pitch l.row l.whole.area.width) l.cell)
