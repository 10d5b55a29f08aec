use Rattle.std.proofs.Common.{[], ◌∷◌, rules}
use borrow.Rule.Slice.Mut.{set_vals}
use Rattle.grids.specs.declared.grids.Grid.{Grid}
use Rattle.grids.proofs.PutsLawful.{lawfully}
use Rattle.grids.proofs.grids.Grid.put_pair.Goals as goal

pub returns-clause-laws : goal.returns-clause-laws
returns-clause-laws g c =
    let old = c.args.self.now in
    let new : Grid g.row.C.Denot = record { cells = set_vals c.put_cells.new.cells old.cells; size = old.size } in
    lawfully _ _ g.met.C.TerminalCell.lawful (c.args.left ∷ c.args.right ∷ []) old new _ _ c.put_cells.result (search rules) (search rules)
