use Rattle.std.proofs.Common.{sym, refl, ◌∙◌}
use Rattle.orders.specs.Kept.{order_of}
use Rattle.orders.proofs.OrderLaws.{nowhere, turned_to_front, once_lowered}
use Rattle.orders.proofs.records.Order.lower.Goals as goal

pub invariant_of-self-clause-once : goal.invariant_of-self-clause-once
invariant_of-self-clause-once c =
    let o = c.args.self.now in
    λ m. rw (turned_to_front c.args.number c.in-Some.place o c.rotate_right.new.self (sym c.place.ensures ∙ c.in-Some.is) c.rotate_right.ensures.after) (once_lowered 16 c.args.number (order_of o) o.once m)

pub returns-in-Some : goal.returns-in-Some
returns-in-Some c = turned_to_front c.args.number c.in-Some.place c.args.self.now c.rotate_right.new.self (sym c.place.ensures ∙ c.in-Some.is) c.rotate_right.ensures.after

pub returns-in_default : goal.returns-in_default
returns-in_default c = rw (nowhere c.args.number (order_of c.args.self.now) (sym c.place.ensures ∙ c.in_default.is)) refl
