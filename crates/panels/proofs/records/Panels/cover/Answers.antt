use Rattle.std.proofs.Common.{◌≡◌, ℕ, ◌<◌, Bool, length, take, get_or, sym, ap, ◌∙◌, arith}
use Rattle.std.proofs.lemmas.List.{length-take, take_all}
use Rattle.std.proofs.lemmas.List.Sums.{count_by-le-length}
use Rattle.std.specs.List.{filter}
use Rattle.orders.specs.Orders.{times}
use Rattle.panels.specs.Places.{covers}
use Rattle.panels.specs.Decks.{deck_of, panel_of}
use Rattle.panels.proofs.Listing.{listed_yes, listed_no, listed_once}
use Rattle.panels.proofs.records.Panels.cover.Goals as goal
use Rattle.panels.proofs.records.Panels.cover.Goals.{then-covers, else-covers}

pub loop-number-preserved : goal.loop-number-preserved
loop-number-preserved c =
    let d = deck_of c.args.self.now in
    let p : ℕ → Bool = λ n. covers (panel_of d n) c.args.at.row c.args.at.column in
    let number = get_or c.numbers-number-items.result.now c.loop-number.number-index 0 in
    let within : c.loop-number.number-index < length d.order = rw (sym c.numbers-number-items.ensures) c.loop-number-test.true in
    let at : number ≡ get_or d.order c.loop-number.number-index 0 = ap (λ xs. get_or xs c.loop-number.number-index 0) c.numbers-number-items.ensures in
    let room : c.loop-number.count < 16 = omega (arith, c.loop-number.invariant.counted, count_by-le-length p (take c.loop-number.number-index d.order), length-take c.loop-number.number-index d.order, length-take c.args.self.now.order.shown c.args.self.now.order.numbers, c.args.self.now.order.few) in
    elim c.if-covers.branch [
      | then-covers w ↦ rw (w.list-is, w.count-is) (listed_yes p d.order c.args.list.now c.loop-number.list c.loop-number.number-index c.loop-number.count number c.loop-number.invariant within at (sym c.covers.ensures ∙ w.if-covers.true) room)
      | else-covers w ↦ rw (w.list-is, w.count-is) (listed_no p d.order c.args.list.now c.loop-number.list c.loop-number.number-index c.loop-number.count number c.loop-number.invariant within at (sym c.covers.ensures ∙ w.if-covers.false))
    ]

pub returns-clause-each : goal.returns-clause-each
returns-clause-each c = λ n.
    let d = deck_of c.args.self.now in
    let p : ℕ → Bool = λ m. covers (panel_of d m) c.args.at.row c.args.at.column in
    ap (times n) (c.loop-number.invariant.front ∙ ap (filter p) (take_all c.loop-number.number-index d.order (rw (sym c.numbers-number-items.ensures) c.loop-number-test.false))) ∙ listed_once p d.order n c.args.self.now.order.once
