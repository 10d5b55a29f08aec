-- What each accepted call on panels makes of a record.
use Rattle.std.specs.Prelude.{ℕ, cond, ◌||◌, List, [], ◌∷◌, ◌++◌, Some, None, Option, slice_set}
use Rattle.places.specs.declared.Spot.{Spot}
use Rattle.places.specs.declared.Rectangle.{Rectangle}
use Rattle.orders.specs.Orders.{without}
use Rattle.areas.specs.Addresses.{part_of}
use Rattle.windows.specs.Tables.{area_of}
use Rattle.panels.specs.Places.{covers}
use Rattle.panels.specs.Decks.{Deck, panel_of, is_shown, with_order, moved_to}
use Rattle.panels.specs.declared.panel.Panel.{Panel}
use Rattle.screen.specs.States.{State, with_deck, touched_at}

-- a number stands for a panel
abbrev pub deck_with : Deck → ℕ → Panel → Deck
deck_with d number p = record { given = slice_set d.given number (Some p); order = d.order }

abbrev pub given_panel : State → ℕ → ℕ → Rectangle → Spot → State
given_panel s number window view at =
    with_deck s (deck_with s.deck number (record { window = window; view = part_of (area_of s.table window) view.top view.left view.height view.width; at = at }))

-- another order, and the panel's rectangle is touched
abbrev pub reordered : State → ℕ → List ℕ → State
reordered s number order = touched_at (with_deck s (with_order s.deck order)) (covers (panel_of s.deck number))

abbrev pub shown_panel : State → ℕ → State
shown_panel s number = reordered s number (s.deck.order ++ number ∷ [])

abbrev pub hidden_panel : State → ℕ → State
hidden_panel s number = reordered s number (without number s.deck.order)

abbrev pub raised_panel : State → ℕ → State
raised_panel s number = reordered s number (without number s.deck.order ++ number ∷ [])

abbrev pub lowered_panel : State → ℕ → State
lowered_panel s number = reordered s number (number ∷ without number s.deck.order)

-- a panel has another place
abbrev pub moved : State → ℕ → Panel → Spot → State
moved s number p to = with_deck s (deck_with s.deck number (moved_to p to.row to.column))

-- and if it is shown, its old and its new rectangle are touched
abbrev pub relocated : State → ℕ → Option Panel → Spot → State
relocated s number None to = s
relocated s number (Some p) to =
    cond (is_shown s.deck number)
    (touched_at (moved s number p to) (λ r c. covers (Some p) r c || covers (Some (moved_to p to.row to.column)) r c))
    (moved s number p to)

abbrev pub relocated_panel : State → ℕ → Spot → State
relocated_panel s number to = relocated s number (panel_of s.deck number) to
