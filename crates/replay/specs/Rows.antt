-- The row of a line.
use Rattle.std.specs.Prelude.{◌≡◌, ℕ, ◌-◌, min, List, length, vec_items}
use Rattle.cells.specs.Kinds.{Layer, Glyph}
use Rattle.cells.specs.Rows.{mended}
use Rattle.text_cells.specs.TextCells.{text_layer, text_glyph}
use Rattle.pick_list.specs.Laying.{cells_of, nothing_of, laid_row}
use Rattle.pick_list.specs.Differing.{Differing}
use Rattle.pick_list.specs.declared.Laid.{Laid}
use Rattle.replay.specs.declared.rows.MendedLine.{MendedLine}

-- how many cells the characters make up to the width and past it, and how many characters make none
pub record Counted {C : Type 0} (g : Glyph C) (width : ℕ) (characters : List ℕ) (counts : Laid) : Type 0 where
  pub laid : counts.laid ≡ min (length (cells_of g characters)) width
  pub cut : counts.cut ≡ length (cells_of g characters) - width
  pub dropped : counts.dropped ≡ nothing_of g characters

-- the row that the characters make, cut at the width
pub record IsLaid {C : Type 0} (l : Layer C) (g : Glyph C) (width : ℕ) (characters : List ℕ) (cells : List C) (counts : Laid) : Type 0 where
  pub row : cells ≡ laid_row l g width characters
  pub counted : Counted g width characters counts

-- the row that mending makes of the laid characters, with what was counted
pub record IsRow (width : ℕ) (characters : List ℕ) (m : MendedLine) : Type 0 where
  pub row : vec_items m.line.row ≡ mended text_layer text_glyph (laid_row text_layer text_glyph width characters)
  pub counted : Counted text_glyph width characters m.line.laid
  pub blanked : Differing (laid_row text_layer text_glyph width characters) (vec_items m.line.row) m.blanked
