use Rattle.std.proofs.Common.{◌+◌, sym, ◌∙◌}
use Rattle.areas.specs.Addresses.{in_rows, in_span}
use Rattle.areas.proofs.AddressLaws.{no_row, rows_push}
use Rattle.windows.proofs.Drawn.{none_drawn, drawn_more, drawn_like}
use Rattle.windows.proofs.drawing.draw_area.Goals as goal

pub loop-row-init : goal.loop-row-init
loop-row-init g c =
    let a = c.args.whole.area in
    none_drawn g.C.LayerCell.layer c.args.memory.now _ c.args.cell (λ x. no_row a.base a.pitch a.width x)

pub loop-row-preserved : goal.loop-row-preserved
loop-row-preserved g c =
    let a = c.args.whole.area in
    let l = g.C.LayerCell.layer in
    drawn_more l c.args.memory.now (in_rows a.base a.pitch c.loop-row.row a.width) (in_span c.row.result a.width) c.args.cell c.loop-row.memory c.fill.new.memory c.loop-row.invariant c.fill.ensures
    ∙ drawn_like l c.args.memory.now _ (in_rows a.base a.pitch (c.loop-row.row + 1) a.width) c.args.cell (λ x. rw c.row.ensures (sym (rows_push a.base a.pitch c.loop-row.row a.width x)))
