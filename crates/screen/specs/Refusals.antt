-- Why a call on a screen record is refused, in the order of the tests.
use Rattle.std.specs.Prelude.{ℕ, Bool, not, ◌&&◌, ◌||◌, [], ◌∷◌, ◌++◌, Some, None, Option, ◌==◌, nat_lt}
use Rattle.faults.specs.declared.Fault.{Fault}
use Rattle.faults.specs.declared.Fault.TheVariants.{BadSize, CellCount, NoPanel, PanelShown, PanelHidden, BadAttributes, OffScreen, TooSmallForBox, MemoryLength}
use Rattle.faults.specs.Refusals.{first}
use Rattle.places.specs.Places.{size, holds, lies_in}
use Rattle.places.specs.declared.Spot.{Spot}
use Rattle.places.specs.declared.Size.{Size}
use Rattle.places.specs.declared.Rectangle.{Rectangle}
use Rattle.cells.specs.Widths.{within}
use Rattle.windows.specs.Refusals.{wrong_memory, no_window, part_tests}
use Rattle.windows.specs.Tables.{Table, area_of}
use Rattle.panels.specs.Decks.{panel_of, is_given, is_shown}
use Rattle.panels.specs.declared.panel.Panel.{Panel}
use Rattle.screen.specs.States.{State}

abbrev pub set_up_refusal : Size → ℕ → Option Fault
set_up_refusal z memory =
    first ((not (within 1 64 z.rows && within 1 128 z.columns), BadSize) ∷ (nat_lt 65535 memory, CellCount) ∷ [])

abbrev pub brush_refusal : ℕ → Option Fault
brush_refusal attributes = first ((nat_lt 15 attributes, BadAttributes) ∷ [])

-- 8: a spot off the screen
abbrev pub off_screen : State → Spot → Bool × Fault
off_screen s at = (not (holds (size s.rows s.columns) at), OffScreen)

abbrev pub spot_refusal : State → Spot → Option Fault
spot_refusal s at = first (off_screen s at ∷ [])

abbrev pub rectangle : Spot → ℕ → ℕ → Rectangle
rectangle at height width = record { top = at.row; left = at.column; height = height; width = width }

-- does a rectangle lie wholly on the screen?
abbrev pub fits_on : State → Rectangle → Bool
fits_on s p = lies_in p (size s.rows s.columns)

-- 6: no panel has that number
abbrev pub no_panel : State → ℕ → Bool × Fault
no_panel s number = (not (is_given s.deck number), NoPanel)

-- a panel can be given a number up to 15 that is not shown
abbrev pub panel_refusal : State → ℕ → ℕ → Rectangle → Spot → Option Fault
panel_refusal s number window view at =
    first ((nat_lt 15 number, NoPanel) ∷ (is_shown s.deck number, PanelShown) ∷ (part_tests s.table window view ++ (not (fits_on s (rectangle at view.height view.width)), OffScreen) ∷ []))

abbrev pub show_refusal : State → ℕ → Option Fault
show_refusal s number = first (no_panel s number ∷ (is_shown s.deck number, PanelShown) ∷ [])

-- hide, raise and lower
abbrev pub shown_refusal : State → ℕ → Option Fault
shown_refusal s number = first (no_panel s number ∷ (not (is_shown s.deck number), PanelHidden) ∷ [])

-- the panel has to fit at its new place
abbrev pub height_of : Option Panel → ℕ
height_of None = 0
height_of (Some p) = p.view.height

abbrev pub width_of : Option Panel → ℕ
width_of None = 0
width_of (Some p) = p.view.width

abbrev pub relocate_refusal : State → ℕ → Spot → Option Fault
relocate_refusal s number at =
    first (no_panel s number ∷ (not (fits_on s (rectangle at (height_of (panel_of s.deck number)) (width_of (panel_of s.deck number)))), OffScreen) ∷ [])

-- 15: row memory of another length than a row, n cells
abbrev pub wrong_row_memory : State → ℕ → Bool × Fault
wrong_row_memory s n = (not (n == s.columns), MemoryLength)

abbrev pub row_off_screen : State → ℕ → Bool × Fault
row_off_screen s row = (not (nat_lt row s.rows), OffScreen)

abbrev pub row_refusal : State → ℕ → Option Fault
row_refusal s row = first (row_off_screen s row ∷ [])

abbrev pub top_refusal : State → ℕ → Spot → Option Fault
top_refusal s n at = first (wrong_memory s.table n ∷ off_screen s at ∷ [])

abbrev pub compose_refusal : State → ℕ → ℕ → ℕ → Option Fault
compose_refusal s n row m = first (wrong_memory s.table n ∷ row_off_screen s row ∷ wrong_row_memory s m ∷ [])

-- a box: after the attributes the window's sides
abbrev pub box_refusal : Table → ℕ → ℕ → ℕ → Option Fault
box_refusal t n window attributes =
    first (wrong_memory t n ∷ no_window t window ∷ (nat_lt 15 attributes, BadAttributes) ∷ (nat_lt (area_of t window).height 2 || nat_lt (area_of t window).width 2, TooSmallForBox) ∷ [])
