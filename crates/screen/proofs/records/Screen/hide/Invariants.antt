-- Which order is left.
use Rattle.orders.specs.Orders.{without}
use Rattle.screen.specs.States.{state_of}
use Rattle.screen.proofs.records.Screen.hide.Given as goal

abbrev pub ghost-reorder : goal.ghost-reorder
ghost-reorder a = without a.number (state_of a.self.now).deck.order
