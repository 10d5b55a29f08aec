use Rattle.grids.specs.CellsPut.{cells_in}
use Rattle.put_rule.proofs.GridRows.{put_in}
use Rattle.grids.proofs.grids.put_cells.Goals as goal

pub returns-clause-effect : goal.returns-clause-effect
returns-clause-effect g c =
    let lies = c.in-Some.ensures in
    put_in g.C.LayerCell.layer g.C.TerminalCell.glyph _ _ c.args.cells.now c.args.at.row _ _ _ (cells_in c.args.new) _ lies.below lies.fit lies.start lies.end c.put_row.ensures
