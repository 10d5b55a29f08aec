-- Where a panel lies on the screen, and which address of window memory it shows at a spot.
use Rattle.std.specs.Prelude.{ℕ, ◌+◌, ◌-◌, Bool, true, false, cond, ◌&&◌, Some, None, Option, nat_le}
use Rattle.areas.specs.Addresses.{address, in_span, ends_below}
use Rattle.touching.specs.TouchedRows.{in_rectangle}
use Rattle.panels.specs.declared.panel.Panel.{Panel}

-- does a panel cover a spot? One that was never given covers none
abbrev pub covers : Option Panel → ℕ → ℕ → Bool
covers None row column = false
covers (Some p) row column = in_rectangle p.at.row p.at.column p.view.height p.view.width row column

-- the address of the cell that it shows there
abbrev pub spot_address : Option Panel → ℕ → ℕ → ℕ
spot_address None row column = 0
spot_address (Some p) row column = address p.view (row - p.at.row) (column - p.at.column)

-- the same, none where it covers nothing
abbrev pub shown_address : Option Panel → ℕ → ℕ → Option ℕ
shown_address p row column = cond (covers p row column) (Some (spot_address p row column)) None

-- its view lies in the first 65,535 cells, and it lies in the first 64 rows and 128 columns
abbrev pub is_small : Option Panel → Bool
is_small None = true
is_small (Some p) = ends_below 65535 p.view && (nat_le (p.at.row + p.view.height) 64 && nat_le (p.at.column + p.view.width) 128)

-- does it show, at a spot that it covers, one of the addresses that were written?
abbrev pub shows : (ℕ → Bool) → Option Panel → ℕ → ℕ → Bool
shows written p row column = covers p row column && written (spot_address p row column)

-- in one row of its view, of n addresses
abbrev pub shows_row : Panel → ℕ → ℕ → ℕ → ℕ → ℕ → Bool
shows_row p from n view_row row column =
    in_rectangle (p.at.row + view_row) p.at.column 1 p.view.width row column && in_span from n (spot_address (Some p) row column)
