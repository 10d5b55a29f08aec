use Rattle.std.proofs.Common.{Some, sym, ap, ◌∙◌, inl, inr, arith}
use Rattle.cells.specs.Widths.{within}
use Rattle.ranges.proofs.Touches.{row_far, row_beyond, row_run}
use Rattle.touching.proofs.rows.touched.Goals as goal
use Rattle.touching.proofs.rows.touched.Goals.{then-columns-eq0-via-then-columns-eq0, then-columns-eq0-via-else-columns-eq0+then-last-first, then-columns-eq0-via-else-columns-eq0+else-last-first+then-columns-first}

pub returns-then-columns-eq0 : goal.returns-then-columns-eq0
returns-then-columns-eq0 c = elim c.then-columns-eq0.branch [
  | then-columns-eq0-via-then-columns-eq0 w ↦ sym (row_far c.args.columns c.args.range (within c.args.first c.args.last) c.requires (λ x b. absurd (omega arith)))
  | then-columns-eq0-via-else-columns-eq0+then-last-first w ↦ sym (row_beyond c.args.columns c.args.first c.args.last c.args.range c.requires (inl w.if-last-first.true))
  | then-columns-eq0-via-else-columns-eq0+else-last-first+then-columns-first w ↦ sym (row_beyond c.args.columns c.args.first c.args.last c.args.range c.requires (inr w.if-columns-first.true))
]

pub returns : goal.returns
returns c =
    ap Some c.joined.ensures
    ∙ sym (row_run c.args.columns c.args.first c.args.last c.saturating_sub-low.result c.min-high.result (omega arith) c.saturating_sub-low.ensures (omega arith) (omega arith) (omega arith) c.args.range c.requires)
