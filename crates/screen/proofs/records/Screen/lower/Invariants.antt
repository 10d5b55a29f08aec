-- Which order is left.
use Rattle.orders.specs.Orders.{lowered}
use Rattle.screen.specs.States.{state_of}
use Rattle.screen.proofs.records.Screen.lower.Given as goal

abbrev pub ghost-reorder : goal.ghost-reorder
ghost-reorder a = lowered a.number (state_of a.self.now).deck.order
