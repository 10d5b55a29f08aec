use Rattle.std.proofs.Common.{arith}
use Rattle.std.proofs.lemmas.Bool.Decides.{nat_tests}
use Rattle.touching.proofs.TouchingLaws.{touching_none, touching_then, touching_like, rectangle_more, rectangle_cut}
use Rattle.touching.proofs.records.Touched.touch_rectangle.Goals as goal

pub loop-row-init : goal.loop-row-init
loop-row-init c = touching_none c.args.self.now _ (λ row column h. grind (arith, nat_tests))

pub loop-row-preserved : goal.loop-row-preserved
loop-row-preserved c =
    let t = c.args.self.now in
    touching_like t c.touch_run.new.self _ _
    (λ r x h b. rectangle_more c.args.area.top c.args.area.left c.args.area.width c.saturating_add-last.result c.loop-row.row r x (omega arith) (λ k. omega (arith, t.wide), λ k. omega (arith, t.wide)))
    (touching_then t c.loop-row.self c.touch_run.new.self _ _ c.loop-row.invariant c.touch_run.ensures)

pub returns-after-loop-row : goal.returns-after-loop-row
returns-after-loop-row c =
    let t = c.args.self.now in
    touching_like t c.loop-row.self _ _
    (λ r x h b. rectangle_cut c.args.area.top c.args.area.left c.args.area.height c.args.area.width t.size.rows c.loop-row.row r x h (omega arith) (λ k. omega (arith, t.tall)) (λ k. omega (arith, t.tall, c.loop-row.auto.row-end)))
    c.loop-row.invariant

pub returns-else-area-gt0 : goal.returns-else-area-gt0
returns-else-area-gt0 c = touching_none c.args.self.now _ (λ row column h. grind (arith, nat_tests))
