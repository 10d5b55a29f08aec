-- The addresses below the loop's are written.
use Rattle.std.proofs.Common.{◌≡◌, ◌-◌}
use Rattle.areas.specs.Memories.{by_address}
use Rattle.cell_memory.specs.Writing.{shifted}
use Rattle.cell_memory.proofs.shift.Given as goal

abbrev pub invariant-loop-address : goal.invariant-loop-address
invariant-loop-address g l = l.memory ≡ by_address l.initial.memory (shifted g.C.LayerCell.layer l.initial.memory l.to l.distance (l.address - l.to))
