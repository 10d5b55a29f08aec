-- The three operations of a terminal: when each is refused and what it does.
use Rattle.std.specs.Prelude.{◌≡◌, ℕ, suc, ◌+◌, ◌%◌, ◌^◌, ◌≤◌, cond, not, ◌&&◌, List, [], ◌∷◌, length, is_some, Some, None, Option, Result, MatchResult, nat_le, nat_lt}
use Rattle.faults.specs.declared.Fault.{Fault}
use Rattle.faults.specs.declared.Fault.TheVariants.{OffGrid, LineFull, NotDrawable, CursorUnknown}
use Rattle.cells.specs.Kinds.{Layer, Glyph}
use Rattle.faults.specs.Refusals.{first}
use Rattle.put_rule.specs.Grids.{put_grid}
pub use Rattle.places.specs.Places.{spot}
use Rattle.terminal.specs.Meanings.{Meaning, on_grid}
use Rattle.places.specs.declared.Spot.{Spot}

-- move to a spot, put a cell, put a pair of halves
pub data Operation (C : Type 0) : Type 0 where
  Move : ℕ → ℕ → Operation C
  Put : C → Operation C
  PutPair : C → C → Operation C

-- the cursor's row and column, 0 while it is unknown
abbrev pub row_of : Option Spot → ℕ
row_of None = 0
row_of (Some s) = s.row

abbrev pub column_of : Option Spot → ℕ
column_of None = 0
column_of (Some s) = s.column

-- why an operation is refused, in the order of the tests
abbrev pub refusal : {C : Type 0} → Glyph C → Meaning C → Operation C → Option Fault
refusal g m (Move row column) =
    first ((not (on_grid m row column), OffGrid) ∷ (nat_lt m.room m.need, LineFull) ∷ [])
refusal g m (Put c) =
    first ((not (g.drawable c && g.single c), NotDrawable) ∷ (not (is_some m.cursor), CursorUnknown) ∷ (nat_lt m.room m.need, LineFull) ∷ [])
refusal g m (PutPair c d) =
    first ((not (g.belong c d), NotDrawable) ∷ (not (is_some m.cursor), CursorUnknown) ∷ (nat_le m.columns (suc (column_of m.cursor)), OffGrid) ∷ (nat_lt m.room m.need, LineFull) ∷ [])

-- the cursor n columns on, unknown past the last
abbrev pub moved_on : ℕ → Option Spot → ℕ → Option Spot
moved_on columns cursor n =
    cond (nat_lt (column_of cursor + n) columns) (Some (spot (row_of cursor) (column_of cursor + n))) None

-- cells put from the cursor on
abbrev pub put_cells : {C : Type 0} → Layer C → Glyph C → Meaning C → List C → Meaning C
put_cells l g m new = record {
  rows = m.rows;
  columns = m.columns;
  grid = put_grid l g m.grid (row_of m.cursor) (column_of m.cursor) new;
  cursor = moved_on m.columns m.cursor (length new);
  room = m.room;
  need = m.need;
  tally = (m.tally + length new) % 2 ^ 64;
}

-- what an operation does to all but the room
abbrev pub perform : {C : Type 0} → Layer C → Glyph C → Meaning C → Operation C → Meaning C
perform l g m (Move row column) = record {
  rows = m.rows;
  columns = m.columns;
  grid = m.grid;
  cursor = Some (spot row column);
  room = m.room;
  need = m.need;
  tally = m.tally;
}
perform l g m (Put c) = put_cells l g m (c ∷ [])
perform l g m (PutPair c d) = put_cells l g m (c ∷ d ∷ [])

-- a meaning with another room
abbrev pub with_room : {C : Type 0} → ℕ → Meaning C → Meaning C
with_room n m = record {
  rows = m.rows;
  columns = m.columns;
  grid = m.grid;
  cursor = m.cursor;
  room = n;
  need = m.need;
  tally = m.tally;
}

-- an accepted operation: all but the room is as performed, and the room fell by at most the need
pub record Accepted {C : Type 0} (l : Layer C) (g : Glyph C) (m n : Meaning C) (op : Operation C) : Type 0 where
  pub performed : n ≡ with_room n.room (perform l g m op)
  pub no_more_room : n.room ≤ m.room
  pub room_taken : m.room ≤ n.room + m.need

-- what an operation did, by its answer: it was accepted, or refused and changed nothing
abbrev pub Effect : {C : Type 0} → Layer C → Glyph C → Meaning C → Meaning C → Operation C → Result Unit Fault → Type 0
Effect l g m n op r = MatchResult r (λ _. Accepted l g m n op) (λ _. n ≡ m)
