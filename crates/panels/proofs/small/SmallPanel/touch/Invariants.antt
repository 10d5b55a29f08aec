-- The rows of the view above the loop's are touched.
use Rattle.touching.specs.TouchedRows.{Touching}
use Rattle.panels.proofs.Spans.{shows_rows}
use Rattle.panels.proofs.small.SmallPanel.touch.Given as goal

abbrev pub invariant-loop-row : goal.invariant-loop-row
invariant-loop-row l = Touching l.initial.touched l.touched (shows_rows l.self.panel l.from l.count l.row)
