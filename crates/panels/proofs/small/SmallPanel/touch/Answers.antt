use Rattle.std.proofs.Common.{arith}
use Rattle.std.proofs.lemmas.Bool.Decides.{nat_tests}
use Rattle.touching.proofs.TouchingLaws.{touching_none, touching_then, touching_like}
use Rattle.panels.proofs.Spans.{rows_push}
use Rattle.panels.proofs.small.SmallPanel.touch.Goals as goal

pub loop-row-init : goal.loop-row-init
loop-row-init c = touching_none c.args.touched.now _ (λ r x h. grind (arith, nat_tests))

pub loop-row-preserved : goal.loop-row-preserved
loop-row-preserved c =
    touching_like c.args.touched.now c.touch_row.new.touched _ _ (λ r x h b. rows_push c.args.self.panel c.args.from c.args.count c.loop-row.row r x)
    (touching_then c.args.touched.now c.loop-row.touched c.touch_row.new.touched _ _ c.loop-row.invariant c.touch_row.ensures)
