use Rattle.std.proofs.Common.{rules}
use Rattle.text_cells.specs.Laws.{lawful}
use Rattle.text_cells.proofs.TextCellTerminalCell.is_drawable.Goals as goal

pub returns-then-are_attributes : goal.returns-then-are_attributes
returns-then-are_attributes c = record { told = search rules; laws = lawful }

pub returns-else-are_attributes : goal.returns-else-are_attributes
returns-else-are_attributes c = record { told = search rules; laws = lawful }
