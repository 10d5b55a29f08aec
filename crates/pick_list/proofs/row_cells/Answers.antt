use Rattle.std.proofs.Common.{◌≡◌, ℕ, List, take, vec_len, Some, None, ap, sym, ◌∙◌}
use Rattle.std.specs.List.{slice_get}
use Rattle.put_rule.specs.Grids.{row_at}
use Rattle.grids.specs.GridViews.{grid_rows}
use Rattle.pick_list.proofs.Reading.{more_read, all_read}
use Rattle.pick_list.proofs.row_cells.Goals as goal

pub loop-cell-preserved : goal.loop-cell-preserved
loop-cell-preserved g c =
    let row : List g.row.C.Denot = row_at (grid_rows c.args.grid.now) c.args.row in
    let n = vec_len c.loop-cell.cells in
    let inv = c.loop-cell.invariant in
    let told : Some c.in-Some.cell ≡ slice_get row n = let same = inv.0 in let len = c.len.ensures in cc (c.in-Some.is, c.cell.ensures.told) in
    (c.cell.ensures.same ∙ inv.0, c.in_ok-push.ensures.items ∙ more_read row _ n c.in-Some.cell inv.1 told ∙ ap (λ (m : ℕ). take m row) (sym c.in_ok-push.ensures.len))

pub returns-clause-told : goal.returns-clause-told
returns-clause-told g c =
    let row : List g.row.C.Denot = row_at (grid_rows c.args.grid.now) c.args.row in
    let inv = c.loop-cell.invariant in
    let told : None ≡ slice_get row (vec_len c.loop-cell.cells) = let same = inv.0 in let len = c.len.ensures in cc (c.in_default.is, c.cell.ensures.told) in
    all_read row _ _ inv.1 told
