use Rattle.std.proofs.Common.{sym, refl, ◌∙◌}
use Rattle.orders.specs.Kept.{order_of}
use Rattle.orders.proofs.OrderLaws.{without_none, once_without, left_below}
use Rattle.orders.proofs.records.Order.hide.Goals as goal

pub invariant_of-self-clause-once : goal.invariant_of-self-clause-once
invariant_of-self-clause-once c =
    let o = c.args.self.now in
    λ m. rw (left_below c.args.number o c.raise.new.self (c.raise.ensures ∙ rw (sym c.contains.ensures ∙ c.if-contains.true) refl)) (once_without 16 c.args.number (order_of o) o.once m)

pub returns-then-contains : goal.returns-then-contains
returns-then-contains c = left_below c.args.number c.args.self.now c.raise.new.self (c.raise.ensures ∙ rw (sym c.contains.ensures ∙ c.if-contains.true) refl)

pub returns-else-contains : goal.returns-else-contains
returns-else-contains c = sym (without_none c.args.number (order_of c.args.self.now) (sym c.contains.ensures ∙ c.if-contains.false))
