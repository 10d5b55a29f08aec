use Rattle.std.proofs.Common.{◌+◌, ℕ, ap, ◌∙◌, refl}
use Rattle.grids.specs.CellsPut.{cells_in}
use Rattle.put_rule.proofs.PutRows.{written}
use Rattle.grids.proofs.CellsPut.{some_cell}
use Rattle.grids.proofs.putting.put_row.Goals as goal

pub returns : goal.returns
returns g c =
    c.write_cells.ensures
    ∙ written g.C.LayerCell.layer g.C.TerminalCell.glyph c.args.row.now c.args.from (cells_in c.args.new) (some_cell _ c.args.new.1) c.requires _ _ _ _ _ (ap (λ (n : ℕ). c.args.from + n) c.count.ensures) refl refl refl c.blank_beside.ensures
