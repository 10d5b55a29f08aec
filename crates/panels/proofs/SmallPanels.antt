-- What it means that a panel is small, and that it covers a spot.
use Rattle.std.proofs.Common.{◌≡◌, ℕ, ◌+◌, ◌-◌, ◌*◌, ◌<◌, ◌≤◌, true, Some, arith}
use Rattle.std.proofs.lemmas.Bool.Decides.{nat_tests}
use Rattle.areas.specs.Addresses.{ends_below}
use Rattle.panels.specs.Places.{covers, is_small}
use Rattle.areas.proofs.AddressLaws.{row_end}
use Rattle.areas.proofs.AreaEnds.{ends_facts}
use Rattle.panels.specs.declared.panel.Panel.{Panel}
use Rattle.panels.specs.declared.small.SmallPanel.{SmallPanel}

module _ (p : Panel) (t : is_small (Some p) ≡ true) where
  pub small_view : ends_below 65535 p.view ≡ true
  small_view = grind (arith, nat_tests)

  pub small_rows : p.at.row + p.view.height ≤ 64
  small_rows = grind (arith, nat_tests)

  pub small_columns : p.at.column + p.view.width ≤ 128
  small_columns = grind (arith, nat_tests)

-- so each row of its view ends in the first 65,535 cells
pub view_row_end : (s : SmallPanel) (row : ℕ) → row < s.panel.view.height → s.panel.view.base + row * s.panel.view.pitch + s.panel.view.width ≤ 65535
view_row_end s row h = let v = s.panel.view in row_end v.base v.pitch v.height v.width row 65535 h (ends_facts 65535 v (small_view s.panel s.small)).last

pub covered_row : (p : Panel) (row column : ℕ) → covers (Some p) row column ≡ true → row - p.at.row < p.view.height
covered_row p row column t = grind (arith, nat_tests)

pub covered_column : (p : Panel) (row column : ℕ) → covers (Some p) row column ≡ true → column - p.at.column < p.view.width
covered_column p row column t = grind (arith, nat_tests)
