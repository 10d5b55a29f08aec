-- The characters so far all take columns, and those are counted.
use Rattle.std.proofs.Common.{◌≡◌, ◌*◌, ◌≤◌, false, take}
use Rattle.windows.specs.TextColumns.{has_no_width, text_columns}
use Rattle.windows.proofs.texts.columns_of.Given as goal

abbrev pub invariant-loop-character : goal.invariant-loop-character
invariant-loop-character l =
    (has_no_width (take l.character-index l.text) ≡ false)
    × (l.columns ≡ text_columns (take l.character-index l.text))
    × (l.columns ≤ 2 * l.character-index)
