use Rattle.std.proofs.lemmas.Result.{err_from_is_err_and}
use Rattle.terminal.proofs.Going.{going_none, going_refused, first_effects}
use Rattle.showing.proofs.show_row.Goals as goal

pub returns-in_err-move_to : goal.returns-in_err-move_to
returns-in_err-move_to g c =
    let p = err_from_is_err_and c.from_residual.result c.from_residual.ensures.1 in
    rw (p.1, p.2) (going_refused (going_none _ _ _ _) c.in_err-move_to.ensures.refusal c.in_err-move_to.ensures.effect)

pub returns : goal.returns
returns g c = first_effects _ _ c.put_cells.result c.in_ok-move_to.ensures.effect c.put_cells.ensures
