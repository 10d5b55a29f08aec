-- The picture: all raw rows, mended.
use Rattle.std.specs.Prelude.{ℕ, List, map}
use Rattle.std.specs.List.{range_with_len}
use Rattle.cells.specs.Kinds.{Layer, Glyph}
use Rattle.cells.specs.Rows.{mended}
use Rattle.panels.specs.Decks.{Deck}
use Rattle.panels.specs.Pictures.{raw}

-- a row of raw cells
abbrev pub raw_row : {C : Type 0} → Layer C → List C → Deck → ℕ → ℕ → List C
raw_row l memory d columns row = map (raw l memory d row) (range_with_len 0 columns)

abbrev pub picture_row : {C : Type 0} → Layer C → Glyph C → List C → Deck → ℕ → ℕ → List C
picture_row l g memory d columns row = mended l g (raw_row l memory d columns row)
