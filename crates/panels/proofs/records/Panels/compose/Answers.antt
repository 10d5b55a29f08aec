use Rattle.std.proofs.Common.{get_or, set, refl, ap, ◌∙◌, arith}
use Rattle.std.proofs.lemmas.Bool.Decides.{nat_tests}
use Rattle.areas.proofs.MemoryLaws.{none_written, set-by_address, by_address_like}
use Rattle.panels.specs.Decks.{deck_of}
use Rattle.panels.specs.Pictures.{raw}
use Rattle.panels.proofs.Tops.{composed_more}
use Rattle.panels.proofs.records.Panels.compose.Goals as goal

pub loop-column-init : goal.loop-column-init
loop-column-init g c = none_written c.args.cells.now 0 0 _ g.C.LayerCell.layer.blank refl

pub loop-column-preserved : goal.loop-column-preserved
loop-column-preserved g c =
    let cells = c.args.cells.now in
    ap (λ now. set now c.loop-column.column c.raw_cell.result) c.loop-column.invariant
    ∙ set-by_address cells _ c.loop-column.column c.raw_cell.result (omega arith)
    ∙ by_address_like cells _ _ (λ x h. composed_more (raw g.C.LayerCell.layer c.args.memory.now (deck_of c.args.self.now) c.args.row) (λ y. get_or cells y g.C.LayerCell.layer.blank) c.loop-column.column x c.raw_cell.result c.raw_cell.ensures)

pub returns : goal.returns
returns g c = c.loop-column.invariant ∙ by_address_like c.args.cells.now _ _ (λ x h. grind (arith, nat_tests))
