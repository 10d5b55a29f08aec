-- What a grid over a slice means: its rows, or none if its size does not fit the slice.
use Rattle.std.specs.Prelude.{◌≡◌, ℕ, ◌+◌, ◌*◌, ◌<◌, ◌≤◌, Bool, false, cond, not, ◌&&◌, List, [], ◌∷◌, length, Option, nat_le, nat_lt}
use Rattle.faults.specs.declared.Fault.{Fault}
use Rattle.faults.specs.declared.Fault.TheVariants.{OffGrid}
use Rattle.cells.specs.Kinds.{Layer, Glyph}
use Rattle.faults.specs.Refusals.{first}
use Rattle.put_rule.specs.Grids.{fits, rows_of, put_grid}
use Rattle.std.specs.declared.ops.Range.{Range}
use Rattle.places.specs.declared.Size.{Size}
use Rattle.grids.specs.declared.grids.Grid.{Grid}

abbrev pub fitting : {C : Type 0} → Grid C → Bool
fitting t = fits t.size.rows t.size.columns t.cells.now

abbrev pub height : {C : Type 0} → Grid C → ℕ
height t = cond (fitting t) t.size.rows 0

abbrev pub width : {C : Type 0} → Grid C → ℕ
width t = cond (fitting t) t.size.columns 0

abbrev pub grid_rows : {C : Type 0} → Grid C → List (List C)
grid_rows t = cond (fitting t) (rows_of t.size.rows t.size.columns t.cells.now) []

-- cells are put only into columns of the grid
abbrev pub put_refusal : ℕ → ℕ → ℕ → ℕ → ℕ → Option Fault
put_refusal rows columns row column n = first ((not (nat_lt row rows && nat_le (column + n) columns), OffGrid) ∷ [])

-- what a put leaves of a grid: the same size, and the rows by the put rule
pub record PutInto {C : Type 0} (l : Layer C) (g : Glyph C) (t u : Grid C) (row column : ℕ) (new : List C) : Type 0 where
  pub same_rows : u.size.rows ≡ t.size.rows
  pub same_columns : u.size.columns ≡ t.size.columns
  pub same_length : length u.cells.now ≡ length t.cells.now
  pub put : grid_rows u ≡ put_grid l g (grid_rows t) row column new

-- a row that a memory of just that size has not
abbrev pub OffRows : {C : Type 0} → Size → List C → ℕ → Type 0
OffRows z cells row = (fits z.rows z.columns cells && nat_lt row z.rows) ≡ false

-- where a row lies in a memory of just that size
pub record RowLies {C : Type 0} (z : Size) (cells : List C) (row : ℕ) (range : Range ℕ) : Type 0 where
  pub fit : length cells ≡ z.rows * z.columns
  pub below : row < z.rows
  pub start : range.start ≡ row * z.columns
  pub end : range.end ≡ range.start + z.columns
  pub inside : range.end ≤ length cells
