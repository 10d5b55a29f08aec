-- The cells of the characters so far are written over blanks, and they are counted.
use Rattle.std.proofs.Common.{◌≡◌, ◌*◌, ◌≤◌, length, take}
use Rattle.areas.specs.Memories.{by_address}
use Rattle.cell_memory.specs.Writing.{written}
use Rattle.pick_list.specs.Laying.{cells_of, nothing_of}
use Rattle.pick_list.proofs.lay.Given as goal

abbrev pub invariant-loop-character : goal.invariant-loop-character
invariant-loop-character g l =
    (l.row ≡ by_address l.initial.row (written g.C.LayerCell.layer l.initial.row 0 (cells_of g.C.TerminalCell.glyph (take l.character-index l.text))))
    × (l.made ≡ length (cells_of g.C.TerminalCell.glyph (take l.character-index l.text)))
    × (l.made ≤ 2 * l.character-index)
    × (l.dropped ≡ nothing_of g.C.TerminalCell.glyph (take l.character-index l.text))
    × (l.dropped ≤ l.character-index)
