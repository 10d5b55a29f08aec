-- What a terminal over a grid in memory means: its size is the grid's if that is usable, else it has no rows and no columns.
use Rattle.std.specs.Prelude.{ℕ, Bool, cond, ◌&&◌, [], Some, None, Option, nat_lt}
use Rattle.put_rule.specs.Grids.{rows_of}
use Rattle.grids.specs.GridViews.{fitting}
use Rattle.grids.specs.declared.grids.Grid.{Grid}
use Rattle.terminal.specs.Meanings.{Meaning}
use Rattle.places.specs.declared.Spot.{Spot}

-- the device's limits allow the size, and the memory has just its cells
abbrev pub usable : {C : Type 0} → (ℕ → ℕ → Bool) → Grid C → Bool
usable limits t = limits t.size.rows t.size.columns && fitting t

-- a stored cursor is known only if it is on the grid
abbrev pub known : ℕ → ℕ → Option Spot → Option Spot
known rows columns None = None
known rows columns (Some s) = cond (nat_lt s.row rows && nat_lt s.column columns) (Some s) None

-- by whether the size is usable: grid, stored cursor, room, need and tally
abbrev pub over_grid : {C : Type 0} → Bool → Grid C → Option Spot → ℕ → ℕ → ℕ → Meaning C
over_grid fit t cursor room need tally = record {
  rows = cond fit t.size.rows 0;
  columns = cond fit t.size.columns 0;
  grid = cond fit (rows_of t.size.rows t.size.columns t.cells.now) [];
  cursor = known (cond fit t.size.rows 0) (cond fit t.size.columns 0) cursor;
  room = room;
  need = need;
  tally = tally;
}
