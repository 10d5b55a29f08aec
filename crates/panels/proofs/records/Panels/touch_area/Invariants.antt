-- What is shown of the rows above the loop's is touched.
use Rattle.areas.specs.Addresses.{in_rows}
use Rattle.touching.specs.TouchedRows.{Touching}
use Rattle.panels.specs.Decks.{deck_of, hit}
use Rattle.panels.proofs.records.Panels.touch_area.Given as goal

abbrev pub invariant-loop-row : goal.invariant-loop-row
invariant-loop-row l = Touching l.initial.touched l.touched (hit (deck_of l.self) (in_rows l.area.base l.area.pitch l.row l.area.width))
