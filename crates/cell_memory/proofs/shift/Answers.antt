use Rattle.std.proofs.Common.{◌≡◌, ◌+◌, ◌-◌, get_or, set, ap, ◌∙◌, arith}
use Rattle.std.proofs.lemmas.Bool.Decides.{nat_tests}
use Rattle.areas.proofs.MemoryLaws.{by_address_like, none_written, set-by_address}
use Rattle.cell_memory.proofs.Shifting.{still_there}
use Rattle.cell_memory.proofs.shift.Goals as goal

pub loop-address-init : goal.loop-address-init
loop-address-init g c = none_written c.args.memory.now c.args.to (c.args.to - c.args.to) _ g.C.LayerCell.layer.blank (omega arith)

pub loop-address-preserved : goal.loop-address-preserved
loop-address-preserved g c =
    let memory = c.args.memory.now in
    let blank = g.C.LayerCell.layer.blank in
    let at = c.loop-address.address in
    let read : c.cell_or_blank.result ≡ get_or memory (at + c.args.distance) blank = c.cell_or_blank.ensures ∙ ap (λ now. get_or now c.saturating_add-in-loop-address.result blank) c.loop-address.invariant ∙ still_there g.C.LayerCell.layer memory c.args.to c.args.distance at c.saturating_add-in-loop-address.result (omega arith) (omega arith) c.saturating_add-in-loop-address.ensures in
    ap (λ now. set now at c.cell_or_blank.result) c.loop-address.invariant
    ∙ set-by_address memory _ at c.cell_or_blank.result (omega arith)
    ∙ by_address_like memory _ _ (λ x h. grind (arith, nat_tests))
