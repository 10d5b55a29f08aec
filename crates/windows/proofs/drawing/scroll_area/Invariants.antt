-- The rows above the loop's have the cells of the next ones.
use Rattle.std.proofs.Common.{◌≡◌}
use Rattle.areas.specs.Memories.{by_address}
use Rattle.windows.proofs.Scrolling.{moved_up}
use Rattle.windows.proofs.drawing.scroll_area.Given as goal

abbrev pub invariant-loop-row : goal.invariant-loop-row
invariant-loop-row g l = l.memory ≡ by_address l.initial.memory (moved_up g.C.LayerCell.layer l.initial.memory l.whole.area l.row)
