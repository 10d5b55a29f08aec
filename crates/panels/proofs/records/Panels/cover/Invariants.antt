-- The covering panels below the loop's place are listed.
use Rattle.orders.specs.Kept.{order_of}
use Rattle.panels.specs.Places.{covers}
use Rattle.panels.specs.Decks.{deck_of, panel_of}
use Rattle.panels.proofs.Listing.{Listed}
use Rattle.panels.proofs.records.Panels.cover.Given as goal

abbrev pub invariant-loop-number : goal.invariant-loop-number
invariant-loop-number l = Listed (λ n. covers (panel_of (deck_of l.self) n) l.at.row l.at.column) (order_of l.self.order) l.initial.list l.list l.number-index l.count
