use Rattle.std.proofs.Common.{◌∙◌}
use Rattle.windows.proofs.Drawn.{edge_drawn, drawn_like, ends_are, corners_are}
use Rattle.windows.proofs.drawing.draw_edge.Goals as goal

pub returns : goal.returns
returns g c =
    let l = g.C.LayerCell.layer in
    let a = c.args.whole.area in
    let sides = c.draw_sides.new.memory in
    let ends = c.draw_area.new.memory in
    let rows = c.ends-ends.ensures in
    edge_drawn l g.C.TerminalCell.glyph c.args.memory.now a c.args.attributes c.cell_of.result c.cell_of-2.result c.cell_of-3.result sides ends c.draw_sides-2.new.memory c.cell_of.ensures c.cell_of-2.ensures c.cell_of-3.ensures c.draw_sides.ensures
    (c.draw_area.ensures ∙ drawn_like l sides _ _ c.cell_of-2.result (λ x. rw rows (ends_are a x)))
    (c.draw_sides-2.ensures ∙ drawn_like l ends _ _ c.cell_of-3.result (λ x. rw rows (corners_are a x)))
