-- A screen record as all contracts speak of it.
use Rattle.std.specs.Prelude.{ℕ, Bool, List, replicate, None, Option}
use Rattle.places.specs.Places.{spot}
use Rattle.places.specs.declared.Spot.{Spot}
use Rattle.ranges.specs.Ranges.{Range, touch}
use Rattle.touching.specs.TouchedRows.{ranges_of}
use Rattle.windows.specs.Tables.{Table, table_of, no_windows}
use Rattle.panels.specs.Decks.{Deck, deck_of, no_panels}
use Rattle.screen.specs.declared.board.Board.{Board}
use Rattle.screen.specs.declared.records.Screen.{Screen}

-- rows and columns, the windows, the panels, each row's touched range, the attributes of the brush, and the cursor's place
pub record State : Type 0 where
  pub rows : ℕ
  pub columns : ℕ
  pub table : Table
  pub deck : Deck
  pub ranges : List (Option Range)
  pub brush : ℕ
  pub place : Spot

abbrev pub state_on : Board → State
state_on b = record {
  rows = b.touched.size.rows;
  columns = b.touched.size.columns;
  table = table_of b.windows;
  deck = deck_of b.panels;
  ranges = ranges_of b.touched;
  brush = b.brush.attributes;
  place = b.place;
}

abbrev pub state_of : Screen → State
state_of s = state_on s.board

-- a record that was just set up: no panels or touched ranges, brush 0, the cursor's place in the corner
abbrev pub fresh_over : Table → ℕ → ℕ → State
fresh_over table rows columns = record {
  rows = rows;
  columns = columns;
  table = table;
  deck = no_panels;
  ranges = replicate rows None;
  brush = 0;
  place = spot 0 0;
}

-- and no windows, over memory of so many cells
abbrev pub fresh : ℕ → ℕ → ℕ → State
fresh rows columns memory = fresh_over (no_windows memory) rows columns

abbrev pub with_table : State → Table → State
with_table s table = record s { table = table }

abbrev pub with_deck : State → Deck → State
with_deck s deck = record s { deck = deck }

abbrev pub with_brush : State → ℕ → State
with_brush s brush = record s { brush = brush }

abbrev pub with_place : State → Spot → State
with_place s place = record s { place = place }

abbrev pub with_ranges : State → List (Option Range) → State
with_ranges s ranges = record s { ranges = ranges }

-- spots were touched
abbrev pub touched_at : State → (ℕ → ℕ → Bool) → State
touched_at s hit = with_ranges s (touch s.columns s.ranges hit)
