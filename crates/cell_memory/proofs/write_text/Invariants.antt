-- The cells of the characters so far are written, and counted.
use Rattle.std.proofs.Common.{◌≡◌, ◌*◌, ◌≤◌, length, take}
use Rattle.areas.specs.Memories.{by_address}
use Rattle.cell_memory.specs.Texts.{cells_of}
use Rattle.cell_memory.specs.Writing.{written}
use Rattle.cell_memory.proofs.write_text.Given as goal

abbrev pub invariant-loop-character : goal.invariant-loop-character
invariant-loop-character g l =
    (l.memory ≡ by_address l.initial.memory (written g.C.LayerCell.layer l.initial.memory l.from (cells_of g.C.TerminalCell.glyph l.attributes (take l.character-index l.text))))
    × (l.count ≡ length (cells_of g.C.TerminalCell.glyph l.attributes (take l.character-index l.text)))
    × (l.count ≤ 2 * l.character-index)
