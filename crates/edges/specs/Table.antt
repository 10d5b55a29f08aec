-- The table of edge cases: each row is what the definitions compute for one case.
use Rattle.std.specs.Prelude.{◌≡◌, ℕ, List, [], ◌∷◌, Some, None, Option}
use Rattle.faults.specs.declared.Fault.TheVariants.{CursorUnknown}
use Rattle.cells.specs.Rows.{mended}
use Rattle.cells.specs.declared.kinds.Made.TheVariants.{Pair}
use Rattle.grids.specs.Putting.{put_row}
use Rattle.terminal.specs.Meanings.{Meaning}
use Rattle.terminal.specs.Operations.{Put, spot, perform, refusal}
use Rattle.ecma_bytes.specs.Bytes.{move_bytes, pen_bytes}
use Rattle.text_cells.specs.TextCells.{text, make, text_layer, text_glyph}
use Rattle.text_cells.specs.declared.Part.TheVariants.{Single}
use Rattle.text_cells.specs.declared.TextCell.{TextCell}
use Rattle.areas.specs.Addresses.{area}
use Rattle.ranges.specs.Ranges.{Range, touch}
use Rattle.panels.specs.Places.{covers}
use Rattle.panels.specs.declared.panel.Panel.{Panel}

abbrev a : TextCell
a = text 0x61 Single 0

abbrev blank : TextCell
blank = text 0x20 Single 0

abbrev mended_text : List TextCell → List TextCell
mended_text row = mended text_layer text_glyph row

abbrev put_text : List TextCell → ℕ → List TextCell → List TextCell
put_text row from new = put_row text_layer text_glyph row from new

-- a terminal of one row and six columns with its cursor in the last column
abbrev six_columns : List TextCell → ℕ → ℕ → ℕ → Meaning TextCell
six_columns row room need tally = record {
  rows = 1;
  columns = 6;
  grid = row ∷ [];
  cursor = Some (spot 0 5);
  room = room;
  need = need;
  tally = tally;
}

-- the touched range of a row of six columns after a panel of one cell was shown at a column of it
abbrev shown_at : ℕ → Option Panel
shown_at column = Some (record { window = 0; view = area 0 1 1 1; at = spot 0 column })

abbrev touched_by : ℕ → List (Option Range)
touched_by column = touch 6 (None ∷ []) (covers (shown_at column))

-- L and R are the halves of 0x4E2D
pub record EdgeTable (L R : TextCell) : Type 0 where
  -- they are what the character makes
  pub halves : make 0x4E2D 0 ≡ Pair L R
  -- a whole row mends to itself
  pub pair_stays : mended_text (L ∷ R ∷ a ∷ []) ≡ L ∷ R ∷ a ∷ []
  -- a cell between two halves parts them
  pub parted_pair : mended_text (L ∷ a ∷ R ∷ []) ≡ blank ∷ a ∷ blank ∷ []
  -- the right half before the left one is no pair
  pub turned_pair : mended_text (R ∷ L ∷ []) ≡ blank ∷ blank ∷ []
  -- a single put over the left half blanks the right one
  pub half_overwritten : put_text (L ∷ R ∷ []) 0 (a ∷ []) ≡ a ∷ blank ∷ []
  -- a pair put over two halves blanks what was left of both
  pub pairs_broken : put_text (L ∷ R ∷ L ∷ R ∷ []) 1 (L ∷ R ∷ []) ≡ blank ∷ L ∷ R ∷ blank ∷ []
  -- after a put in the last column the cursor is unknown, and the next put is refused
  pub past_the_end : (row : List TextCell) (room need tally : ℕ) → refusal text_glyph (perform text_layer text_glyph (six_columns row room need tally) (Put a)) (Put a) ≡ Some CursorUnknown
  -- one column to the right is the shortest as ESC [ 1 C
  pub next_column : move_bytes (Some (spot 4 10)) 4 11 ≡ 0x1B ∷ 0x5B ∷ 0x31 ∷ 0x43 ∷ []
  -- from no attributes to bold and reverse
  pub pen_changed : pen_bytes 0 9 ≡ 0x1B ∷ 0x5B ∷ 0x30 ∷ 0x3B ∷ 0x31 ∷ 0x3B ∷ 0x37 ∷ 0x6D ∷ []
  -- a panel in the first column touches that and the next one
  pub first_column_touched : touched_by 0 ≡ Some (0, 1) ∷ []
  -- further on it touches one column to either side too
  pub middle_column_touched : touched_by 3 ≡ Some (2, 4) ∷ []
