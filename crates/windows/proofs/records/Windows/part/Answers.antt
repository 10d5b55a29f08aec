use Rattle.std.proofs.Common.{◌≡◌, true, sym, ap, ◌∙◌, arith}
use Rattle.places.specs.Places.{lies_in}
use Rattle.areas.specs.Addresses.{holds_part}
use Rattle.areas.proofs.AreaEnds.{part_ends}
use Rattle.windows.proofs.records.Windows.part.Goals as goal

pub returns-clause-inside : goal.returns-clause-inside
returns-clause-inside c =
    let w = c.args.self.now in
    let p = c.args.part in
    let whole = c.in_ok-whole.whole.area in
    let held : holds_part whole p.top p.left p.height p.width ≡ true = ap (lies_in p) (sym c.size.ensures) ∙ sym c.lies_in.ensures ∙ c.if-not-lies_in.false in
    (rw c.address.ensures (part_ends w.taken p.top p.left p.height p.width whole c.in_ok-whole.ensures.inside (omega arith) (omega arith) held), omega (arith, w.enough, w.short))
