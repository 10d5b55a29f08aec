use Rattle.std.proofs.Common.{◌≡◌, ◌-◌, take, drop, ◌∙◌, arith}
use Rattle.std.specs.List.{slice_get}
use Rattle.std.proofs.lemmas.Option.{gets}
use Rattle.std.proofs.lemmas.Grind.{common_steps}
use Rattle.std.proofs.lemmas.Bool.{eq-eqb}
use Rattle.put_rule.proofs.GridRows.{off_rows, row_part}
use Rattle.grids.proofs.grids.read_cell.Goals as goal

pub returns-in_err-range-clause-told : goal.returns-in_err-range-clause-told
returns-in_err-range-clause-told g c = c.from_residual.ensures ∙ off_rows _ _ _ c.args.cells.now _ _ c.in_err-range.ensures

pub returns-clause-told : goal.returns-clause-told
returns-clause-told g c =
    let lies = c.in_ok-range.ensures in
    let found : c.copied.result ≡ slice_get (take (c.in_ok-range.range.end - c.in_ok-range.range.start) (drop c.in_ok-range.range.start c.args.cells.now)) c.args.at.column = grind (arith, common_steps, gets) in
    rw (eq-eqb _ _ lies.fit, row_part _ _ c.args.cells.now _ _ _ lies.below lies.start lies.end) found
