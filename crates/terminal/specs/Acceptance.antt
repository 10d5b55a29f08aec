-- What holds of a terminal where an operation is accepted.
use Rattle.std.specs.Prelude.{◌≡◌, ℕ, suc, ◌<◌, ◌≤◌, true, Some, Option}
use Rattle.cells.specs.Kinds.{Glyph}
use Rattle.places.specs.declared.Spot.{Spot}
use Rattle.terminal.specs.Meanings.{Meaning, on_grid}

pub record MayMove {C : Type 0} (m : Meaning C) (row column : ℕ) : Type 0 where
  pub on : on_grid m row column ≡ true
  pub room : m.need ≤ m.room

-- a drawable single, at the cursor's spot
pub record IsPutAt {C : Type 0} (g : Glyph C) (c : C) (cursor : Option Spot) (s : Spot) : Type 0 where
  pub drawable : g.drawable c ≡ true
  pub single : g.single c ≡ true
  pub cursor_known : cursor ≡ Some s

-- two halves that belong together, from the cursor's spot on, which is not in the last column
pub record IsPairPutAt {C : Type 0} (g : Glyph C) (c d : C) (columns : ℕ) (cursor : Option Spot) (s : Spot) : Type 0 where
  pub belong : g.belong c d ≡ true
  pub cursor_known : cursor ≡ Some s
  pub inside : suc s.column < columns

pub record MayPut {C : Type 0} (g : Glyph C) (m : Meaning C) (c : C) (s : Spot) : Type 0 where
  pub put : IsPutAt g c m.cursor s
  pub room : m.need ≤ m.room

pub record MayPutPair {C : Type 0} (g : Glyph C) (m : Meaning C) (c d : C) (s : Spot) : Type 0 where
  pub put : IsPairPutAt g c d m.columns m.cursor s
  pub room : m.need ≤ m.room
