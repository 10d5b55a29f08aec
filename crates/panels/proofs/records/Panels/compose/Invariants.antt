-- The columns before the loop's are composed.
use Rattle.std.proofs.Common.{◌≡◌, cond, get_or}
use Rattle.areas.specs.Addresses.{in_span}
use Rattle.areas.specs.Memories.{by_address}
use Rattle.panels.specs.Decks.{deck_of}
use Rattle.panels.specs.Pictures.{raw}
use Rattle.panels.proofs.records.Panels.compose.Given as goal

abbrev pub invariant-loop-column : goal.invariant-loop-column
invariant-loop-column g l = l.cells ≡ by_address l.initial.cells (λ x. cond (in_span 0 l.column x) (raw g.C.LayerCell.layer l.memory (deck_of l.self) l.row x) (get_or l.initial.cells x g.C.LayerCell.layer.blank))
