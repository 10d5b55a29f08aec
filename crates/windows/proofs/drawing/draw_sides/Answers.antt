use Rattle.windows.proofs.Drawn.{sides_drawn}
use Rattle.windows.proofs.drawing.draw_sides.Goals as goal

pub returns : goal.returns
returns g c =
    sides_drawn g.C.LayerCell.layer c.args.memory.now c.args.whole.area c.column.result.area c.column-2.result.area c.args.cell c.draw_area.new.memory c.draw_area-2.new.memory c.column.ensures c.column-2.ensures c.draw_area.ensures c.draw_area-2.ensures
