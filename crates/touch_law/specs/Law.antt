-- Which spots of the picture a call may change.
use Rattle.std.specs.Prelude.{◌≡◌, ℕ, ◌*◌, ◌<◌, true, false, List, length, None, slice_index_or}
use Rattle.std.specs.List.{slice_get}
use Rattle.places.specs.declared.Spot.{Spot}
use Rattle.places.specs.declared.Size.{Size}
use Rattle.places.specs.declared.Rectangle.{Rectangle}
use Rattle.cells.specs.Kinds.{Layer, Glyph}
use Rattle.areas.specs.Addresses.{address, row_part, in_area}
use Rattle.areas.specs.Memories.{by_address}
use Rattle.cell_memory.specs.Writing.{filled, written}
use Rattle.windows.specs.Cells.{scrolled, edged, on_edge}
use Rattle.windows.specs.Tables.{is_window, area_of, with_window}
use Rattle.ranges.specs.Ranges.{inside}
use Rattle.panels.specs.Decks.{is_shown, hit}
use Rattle.screen.specs.States.{State, with_table, touched_at}
use Rattle.screen.specs.Pictures.{picture_row}
use Rattle.screen.specs.PanelCalls.{given_panel, shown_panel, hidden_panel, raised_panel, lowered_panel, relocated_panel}

module _ {C : Type 0} (l : Layer C) (g : Glyph C) (s : State) (memory : List C) where
  -- after a call that left the record at t and the window memory as `after`, each spot of the screen outside its row's touched
  -- range shows the picture cell that it showed before
  abbrev pub OnlyTouched : State → List C → Type 0
  OnlyTouched t after =
      (row column : ℕ) → row < s.rows → column < s.columns → inside (slice_index_or t.ranges row None) column ≡ false
      → slice_get (picture_row l g after t.deck t.columns row) column ≡ slice_get (picture_row l g memory s.deck s.columns row) column

  -- the calls on panels
  pub record PanelCallsTouch : Type 0 where
    pub show : (number : ℕ) → OnlyTouched (shown_panel s number) memory
    pub hide : (number : ℕ) → OnlyTouched (hidden_panel s number) memory
    pub raise : (number : ℕ) → OnlyTouched (raised_panel s number) memory
    pub lower : (number : ℕ) → OnlyTouched (lowered_panel s number) memory
    pub relocate : (number : ℕ) (to : Spot) → OnlyTouched (relocated_panel s number to) memory
    -- a panel that is given is hidden
    pub panel : (number window : ℕ) (view : Rectangle) (at : Spot) → is_shown s.deck number ≡ false → OnlyTouched (given_panel s number window view at) memory

  -- the calls on windows
  pub record WindowCallsTouch : Type 0 where
    pub window : (z : Size) → OnlyTouched (with_table s (with_window s.table z)) (by_address memory (filled l memory s.table.taken (z.rows * z.columns) l.blank))
    pub write : (window : ℕ) (at : Spot) (cells : List C) → OnlyTouched (touched_at s (hit s.deck (in_area (row_part (area_of s.table window) at.row at.column (length cells))))) (by_address memory (written l memory (address (area_of s.table window) at.row at.column) cells))
    pub punch : (window : ℕ) (at : Spot) (count : ℕ) → OnlyTouched (touched_at s (hit s.deck (in_area (row_part (area_of s.table window) at.row at.column count)))) (by_address memory (filled l memory (address (area_of s.table window) at.row at.column) count l.punched))
    pub scroll : (window : ℕ) → is_window s.table window ≡ true → OnlyTouched (touched_at s (hit s.deck (in_area (area_of s.table window)))) (by_address memory (scrolled l memory (area_of s.table window)))
    pub box : (window attributes : ℕ) → is_window s.table window ≡ true → OnlyTouched (touched_at s (hit s.deck (on_edge (area_of s.table window)))) (by_address memory (edged l g memory (area_of s.table window) attributes))
