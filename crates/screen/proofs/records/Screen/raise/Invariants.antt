-- Which order is left.
use Rattle.orders.specs.Orders.{raised}
use Rattle.screen.specs.States.{state_of}
use Rattle.screen.proofs.records.Screen.raise.Given as goal

abbrev pub ghost-reorder : goal.ghost-reorder
ghost-reorder a = raised a.number (state_of a.self.now).deck.order
