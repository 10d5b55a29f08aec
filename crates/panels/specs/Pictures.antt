-- What is seen of window memory at each spot: the cell of the topmost shown panel that covers the spot with a cell that is not clear, else the blank.
use Rattle.std.specs.Prelude.{ℕ, Bool, cond, not, ◌&&◌, List, Some, None, Option, slice_index_or}
use Rattle.cells.specs.Kinds.{Layer}
use Rattle.panels.specs.Places.{covers, spot_address}
use Rattle.panels.specs.Decks.{Deck, panel_of, topmost}
use Rattle.panels.specs.declared.panel.Panel.{Panel}

module _ {C : Type 0} (l : Layer C) (memory : List C) where
  -- the cell that a panel has at a spot; an address past the memory holds a clear one
  abbrev pub cell_of_panel : Option Panel → ℕ → ℕ → C
  cell_of_panel p row column = slice_index_or memory (spot_address p row column) l.punched

  -- it covers the spot with a cell that is not clear
  abbrev pub is_seen : Option Panel → ℕ → ℕ → Bool
  is_seen p row column = covers p row column && not (l.clear (cell_of_panel p row column))

  -- that cell, none where it is not seen
  abbrev pub seen_cell : Option Panel → ℕ → ℕ → Option C
  seen_cell p row column = cond (is_seen p row column) (Some (cell_of_panel p row column)) None

  -- the topmost such panel
  abbrev pub top_of : Deck → ℕ → ℕ → Option ℕ
  top_of d row column = topmost (λ n. is_seen (panel_of d n) row column) d.order

  abbrev pub cell_of_top : Deck → ℕ → ℕ → Option ℕ → C
  cell_of_top d row column None = l.blank
  cell_of_top d row column (Some n) = cell_of_panel (panel_of d n) row column

  -- the raw cell of a spot
  abbrev pub raw : Deck → ℕ → ℕ → C
  raw d row column = cell_of_top d row column (top_of d row column)
