-- The operations of the cells before the rest are done.
use Rattle.std.proofs.Common.{length}
use Rattle.terminal.proofs.Going.{Going}
use Rattle.showing.specs.RowOperations.{cell_operations}
use Rattle.showing.proofs.put_cells.Given as goal

abbrev pub invariant-loop-rest : goal.invariant-loop-rest
invariant-loop-rest g l =
    Going g.T.Cell.LayerCell.layer g.T.Cell.TerminalCell.glyph (g.T.Terminal.meaning l.initial.terminal) (g.T.Terminal.meaning l.terminal) (cell_operations g.T.Cell.TerminalCell.glyph l.cells) (cell_operations g.T.Cell.TerminalCell.glyph l.rest)

abbrev pub decreases-loop-rest : goal.decreases-loop-rest
decreases-loop-rest g l = length l.rest
