-- What a face shows, and what an operation makes of it.
use Rattle.std.specs.Prelude.{◌≡◌, ℕ, ◌≤◌, List, length, Option}
use Rattle.cells.specs.Kinds.{Layer, Glyph}
use Rattle.places.specs.declared.Spot.{Spot}
use Rattle.lines.specs.Sending.{Sent}
use Rattle.lines.specs.declared.Line.{Line}
use Rattle.terminal.specs.Meanings.{Meaning}
use Rattle.terminal.specs.Operations.{Operation, perform}

-- rows and columns, the grid row by row, and the cursor at a spot or unknown
pub record Shown (C : Type 0) : Type 0 where
  pub rows : ℕ
  pub columns : ℕ
  pub grid : List (List C)
  pub cursor : Option Spot

-- what is shown, as a terminal with that room, need and tally
abbrev pub over : {C : Type 0} → Shown C → ℕ → ℕ → ℕ → Meaning C
over s room need tally = record {
  rows = s.rows;
  columns = s.columns;
  grid = s.grid;
  cursor = s.cursor;
  room = room;
  need = need;
  tally = tally;
}

-- what a terminal shows
abbrev pub shown_in : {C : Type 0} → Meaning C → Shown C
shown_in m = record { rows = m.rows; columns = m.columns; grid = m.grid; cursor = m.cursor }

-- a face performed an operation: it shows what that makes of what it showed, and the operation's bytes, no more than the need, went into the line
pub record Performs {C : Type 0} (l : Layer C) (g : Glyph C) (s u : Shown C) (op : Operation C) (m n : Line) (bytes : List ℕ) (need : ℕ) : Type 0 where
  pub shown : u ≡ shown_in (perform l g (over s 0 0 0) op)
  pub sent : Sent m n bytes
  pub short : length bytes ≤ need
