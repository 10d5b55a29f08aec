use Rattle.std.proofs.Common.{◌≡◌, ◌∷◌, sym, ◌∙◌, rules}
use Rattle.std.proofs.lemmas.Result.{err_from_is_err_and}
use Rattle.terminal.specs.Operations.{Put}
use Rattle.terminal.proofs.Going.{going_more, going_refused}
use Rattle.showing.specs.RowOperations.{cell_operations}
use Rattle.showing.proofs.Cells.{behind, First, pair_next, single_next, last_next}
use Rattle.showing.proofs.put_cells.Goals as goal
use Rattle.showing.proofs.put_cells.Goals.{in_default-after-via-then-after-lt1, in_default-after-via-in-len1-up-after+else-belongs_with}

pub returns-in_err-put_pair-in-len1-up-after : goal.returns-in_err-put_pair-in-len1-up-after
returns-in_err-put_pair-in-len1-up-after g c =
    let p = err_from_is_err_and c.from_residual.result c.from_residual.ensures.1 in
    let next = pair_next g.T.Cell.TerminalCell.glyph c.loop-rest.rest.now c.cell-item.result c.right-item.result (search rules) (search rules) (sym c.belongs_with.ensures ∙ c.if-belongs_with.true) in
    rw (p.1, p.2) (going_refused (rw next at c.loop-rest.invariant) c.in_err-put_pair-in-len1-up-after.ensures.refusal c.in_err-put_pair-in-len1-up-after.ensures.effect)

pub loop-rest-preserved-then-belongs_with : goal.loop-rest-preserved-then-belongs_with
loop-rest-preserved-then-belongs_with g c =
    let next = pair_next g.T.Cell.TerminalCell.glyph c.loop-rest.rest.now c.cell-item.result c.right-item.result (search rules) (search rules) (sym c.belongs_with.ensures ∙ c.if-belongs_with.true) in
    going_more (rw next at c.loop-rest.invariant) c.in_ok-put_pair-in-len1-up-after.ensures.effect

pub returns-in_err-put-in_default-after : goal.returns-in_err-put-in_default-after
returns-in_err-put-in_default-after g c =
    let t = g.T.Cell.TerminalCell.glyph in
    let cells = c.loop-rest.rest.now in
    let first : First cells c.cell-item.result = search rules in
    let p = err_from_is_err_and c.from_residual-in_err-put-in_default-after.result c.from_residual-in_err-put-in_default-after.ensures.1 in
    let next : cell_operations t cells ≡ Put c.cell-item.result ∷ cell_operations t (behind cells) =
    elim c.in_default-after.branch [
      | in_default-after-via-then-after-lt1 w ↦ last_next t cells _ first (search rules)
      | in_default-after-via-in-len1-up-after+else-belongs_with w ↦ single_next t cells _ w.right-item.result first (search rules) (sym w.belongs_with.ensures ∙ w.if-belongs_with.false)
    ] in
    rw (p.1, p.2) (going_refused (rw next at c.loop-rest.invariant) c.in_err-put-in_default-after.ensures.refusal c.in_err-put-in_default-after.ensures.effect)

pub loop-rest-preserved : goal.loop-rest-preserved
loop-rest-preserved g c =
    let t = g.T.Cell.TerminalCell.glyph in
    let cells = c.loop-rest.rest.now in
    let first : First cells c.cell-item.result = search rules in
    let next : cell_operations t cells ≡ Put c.cell-item.result ∷ cell_operations t (behind cells) =
    elim c.in_default-after.branch [
      | in_default-after-via-then-after-lt1 w ↦ last_next t cells _ first (search rules)
      | in_default-after-via-in-len1-up-after+else-belongs_with w ↦ single_next t cells _ w.right-item.result first (search rules) (sym w.belongs_with.ensures ∙ w.if-belongs_with.false)
    ] in
    going_more (rw next at c.loop-rest.invariant) c.in_ok-put-in_default-after.ensures.effect
