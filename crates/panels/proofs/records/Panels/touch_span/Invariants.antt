-- What the panels below the loop's place show is touched.
use Rattle.std.proofs.Common.{take}
use Rattle.areas.specs.Addresses.{in_span}
use Rattle.orders.specs.Kept.{order_of}
use Rattle.touching.specs.TouchedRows.{Touching}
use Rattle.panels.specs.Places.{shows}
use Rattle.panels.specs.Decks.{deck_of, panel_of, any}
use Rattle.panels.proofs.records.Panels.touch_span.Given as goal

abbrev pub invariant-loop-number : goal.invariant-loop-number
invariant-loop-number l = Touching l.initial.touched l.touched (λ r c. any (λ n. shows (in_span l.from l.count) (panel_of (deck_of l.self) n) r c) (take l.number-index (order_of l.self.order)))
