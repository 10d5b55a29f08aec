use Rattle.std.proofs.Common.{◌≡◌, ◌<◌, true, length, get_or, ap, ◌∙◌, arith}
use Rattle.std.proofs.lemmas.List.{get_or-take, length-take}
use Rattle.areas.specs.Addresses.{area, ends_below}
use Rattle.areas.proofs.AreaEnds.{ends_later}
use Rattle.windows.proofs.records.Windows.find.Goals as goal
use Rattle.windows.proofs.records.Windows.find.Goals.{In-Some}

-- a window's area ends in the cells taken
taken_end : (c : In-Some) → ends_below c.args.self.now.taken c.in-Some.field-0.now ≡ true
taken_end c =
    let w = c.args.self.now in
    let found = c.in-Some.ensures.lookup in
    let h : c.args.window < w.count = omega (arith, found.3.0, ap length c.areas.ensures, length-take w.count w.areas) in
    let none = area 0 0 0 0 in
    let is : c.in-Some.field-0.now ≡ get_or w.areas c.args.window none = found.3.1 none ∙ ap (λ areas. get_or areas c.args.window none) c.areas.ensures ∙ get_or-take w.count w.areas c.args.window none h in
    rw is (w.inside c.args.window h)

pub invariant_of-result : goal.invariant_of-result
invariant_of-result c =
    let w = c.args.self.now in
    record { inside = ends_later w.taken 65535 c.in-Some.field-0.now (omega arith) (taken_end (goal.at.invariant_of-result c).In-Some) }

pub returns-clause-inside : goal.returns-clause-inside
returns-clause-inside c = taken_end (goal.at.returns-clause-inside c).In-Some
