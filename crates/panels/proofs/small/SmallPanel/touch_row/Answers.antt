use Rattle.std.proofs.Common.{◌+◌, ◌*◌, refl}
use Rattle.touching.proofs.TouchingLaws.{touching_none, touching_like}
use Rattle.panels.proofs.SmallPanels.{view_row_end}
use Rattle.panels.proofs.Spans.{row_some, row_none}
use Rattle.panels.proofs.small.SmallPanel.touch_row.Goals as goal

pub returns-then-low-high : goal.returns-then-low-high
returns-then-low-high c =
    let p = c.args.self.panel in
    touching_like c.args.touched.now c.touch_run.new.self _ _
    (λ r x h b. row_some p c.args.from c.args.count c.args.row r x (p.view.base + c.args.row * p.view.pitch) c.saturating_add.result c.max-low.result c.min-high.result refl (view_row_end c.args.self c.args.row c.requires) c.saturating_add.ensures c.max-low.ensures c.min-high.ensures c.if-low-high.true)
    c.touch_run.ensures

pub returns-else-low-high : goal.returns-else-low-high
returns-else-low-high c =
    let p = c.args.self.panel in
    touching_none c.args.touched.now _
    (λ r x h. row_none p c.args.from c.args.count c.args.row r x (p.view.base + c.args.row * p.view.pitch) c.saturating_add.result c.max-low.result c.min-high.result refl (view_row_end c.args.self c.args.row c.requires) c.saturating_add.ensures c.max-low.ensures c.min-high.ensures c.if-low-high.false)
