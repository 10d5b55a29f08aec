-- What a terminal means, and what holds of every meaning.
use Rattle.std.specs.Prelude.{◌≡◌, ℕ, ◌<◌, ◌≤◌, Bool, ◌&&◌, List, length, Some, Option, nat_lt}
use Rattle.places.specs.declared.Spot.{Spot}
use Rattle.put_rule.specs.Grids.{row_at}

-- rows and columns, the grid row by row, the cursor at a spot or unknown, the line room in bytes, the most room that
-- one operation takes, and a tally of the cells put, modulo 2 ^ 64
pub record Meaning (C : Type 0) : Type 0 where
  pub rows : ℕ
  pub columns : ℕ
  pub grid : List (List C)
  pub cursor : Option Spot
  pub room : ℕ
  pub need : ℕ
  pub tally : ℕ

abbrev pub on_grid : {C : Type 0} → Meaning C → ℕ → ℕ → Bool
on_grid m row column = nat_lt row m.rows && nat_lt column m.columns

pub record Sound {C : Type 0} (m : Meaning C) : Type 0 where
  -- the grid has rows × columns cells
  pub tall : length m.grid ≡ m.rows
  pub wide : (row : ℕ) → row < m.rows → length (row_at m.grid row) ≡ m.columns
  -- a known cursor is on it
  pub cursor_row : (s : Spot) → m.cursor ≡ Some s → s.row < m.rows
  pub cursor_column : (s : Spot) → m.cursor ≡ Some s → s.column < m.columns
  -- no operation takes more than 4,096 bytes
  pub small_need : m.need ≤ 4096
