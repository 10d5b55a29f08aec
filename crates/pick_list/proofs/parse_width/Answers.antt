use Rattle.std.proofs.Common.{sym, ◌∙◌}
use Rattle.pick_list.proofs.Numeric.{in_error, width_utf8}
use Rattle.pick_list.proofs.parse_width.Goals as goal

pub returns-in_err-ok : goal.returns-in_err-ok
returns-in_err-ok c =
    rw c.from_residual.ensures (λ n h. (in_error _ _ _ (sym c.ok.ensures.value ∙ c.in_err-ok.was) c.from_utf8.ensures.cases).1.0 (width_utf8 _ n h))
