-- The rows above the loop's are touched.
use Rattle.std.proofs.Common.{◌-◌}
use Rattle.touching.specs.TouchedRows.{in_rectangle, Touching}
use Rattle.touching.proofs.records.Touched.touch_rectangle.Given as goal

abbrev pub invariant-loop-row : goal.invariant-loop-row
invariant-loop-row l = Touching l.initial.self l.self (in_rectangle l.area.top l.area.left (l.row - l.area.top) l.area.width)
