-- The order that is kept.
use Rattle.std.specs.Prelude.{ℕ, List, take}
use Rattle.orders.specs.declared.records.Order.{Order}

abbrev pub order_of : Order → List ℕ
order_of o = take o.shown o.numbers
