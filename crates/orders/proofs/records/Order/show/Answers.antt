use Rattle.std.proofs.Common.{◌≡◌, ℕ, ◌+◌, ◌<◌, false, [], ◌∷◌, ◌++◌, take, set, sym, arith}
use Rattle.std.proofs.lemmas.List.{length-take-le, take_more_set}
use Rattle.orders.specs.Orders.{has}
use Rattle.orders.specs.Kept.{order_of}
use Rattle.orders.specs.declared.records.Order.{Order}
use Rattle.orders.proofs.OrderLaws.{once_shown, once_room}
use Rattle.orders.proofs.records.Order.show.Goals as goal

-- a panel that is not shown has a place
room : (o : Order) (n : ℕ) → n < 16 → has n (order_of o) ≡ false → o.shown < 16
room o n h none = omega (arith, length-take-le o.shown o.numbers (omega (arith, o.sixteen, o.few)), once_room 16 n (order_of o) o.once h none)

pub bounds-self-self : goal.bounds-self-self
bounds-self-self c = room c.args.self.now c.args.number c.if-number-lt-MOST_PANELS.true (sym c.if-not-contains.ensures)

pub invariant_of-self-clause-few : goal.invariant_of-self-clause-few
invariant_of-self-clause-few c = let h = room c.args.self.now c.args.number c.if-number-lt-MOST_PANELS.true (sym c.if-not-contains.ensures) in omega arith

pub invariant_of-self-clause-once : goal.invariant_of-self-clause-once
invariant_of-self-clause-once c =
    let o = c.args.self.now in
    let free = room o c.args.number c.if-number-lt-MOST_PANELS.true (sym c.if-not-contains.ensures) in
    let is : take (o.shown + 1) (set o.numbers o.shown c.args.number) ≡ order_of o ++ c.args.number ∷ [] = take_more_set o.numbers o.shown c.args.number (omega (arith, o.sixteen)) in
    λ m. rw is (once_shown 16 c.args.number (order_of o) o.once c.if-number-lt-MOST_PANELS.true (sym c.if-not-contains.ensures) m)
