-- The columns below the one in hand are mended, the others as they were; `before` is the raw cell before it.
use Rattle.std.proofs.Common.{◌≡◌, ◌++◌, take, drop}
use Rattle.cells.specs.Rows.{before, mended}
use Rattle.cells.proofs.rows.mend.Given as goal

abbrev pub invariant-loop-column : goal.invariant-loop-column
invariant-loop-column g l =
    (l.row ≡ take l.column (mended g.C.LayerCell.layer g.C.TerminalCell.glyph l.initial.row) ++ drop l.column l.initial.row)
    × (l.before ≡ before l.initial.row l.column)
