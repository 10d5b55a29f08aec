-- The panels of a screen: each by its number, and the order of the shown ones from bottom to top.
use Rattle.std.specs.Prelude.{ℕ, Bool, cond, List, [], ◌∷◌, map, replicate, is_some, Some, None, Option, slice_index_or, slice_set}
use Rattle.std.specs.List.{list_any}
use Rattle.std.specs.Option.{option_map}
use Rattle.places.specs.Places.{spot}
use Rattle.orders.specs.Orders.{has}
use Rattle.orders.specs.Kept.{order_of}
use Rattle.panels.specs.Places.{is_small, shows}
use Rattle.panels.specs.declared.panel.Panel.{Panel}
use Rattle.panels.specs.declared.small.SmallPanel.{SmallPanel}
use Rattle.panels.specs.declared.records.Panels.{Panels}

pub record Deck : Type 0 where
  pub given : List (Option Panel)
  pub order : List ℕ

-- the panel that is kept small, none if none is
abbrev pub panel_in : Option SmallPanel → Option Panel
panel_in given = option_map (λ s. s.panel) given

abbrev pub deck_of : Panels → Deck
deck_of p = record { given = map panel_in p.given; order = order_of p.order }

abbrev pub no_panels : Deck
no_panels = record { given = replicate 16 None; order = [] }

-- the panel of a number, none if it was never given
abbrev pub panel_of : Deck → ℕ → Option Panel
panel_of d number = slice_index_or d.given number None

abbrev pub is_given : Deck → ℕ → Bool
is_given d number = is_some (panel_of d number)

abbrev pub is_shown : Deck → ℕ → Bool
is_shown d number = has number d.order

-- a number of the order for which p holds
abbrev pub any : (ℕ → Bool) → List ℕ → Bool
any p order = list_any p order

-- the topmost number of the order for which p holds
abbrev pub or_else : Option ℕ → Option ℕ → Option ℕ
or_else (Some n) other = Some n
or_else None other = other

abbrev pub topmost : (ℕ → Bool) → List ℕ → Option ℕ
topmost p [] = None
topmost p (n ∷ order) = or_else (topmost p order) (cond (p n) (Some n) None)

-- some shown panel covers the spot, and shows there one of the addresses that were written
abbrev pub hit : Deck → (ℕ → Bool) → ℕ → ℕ → Bool
hit d written row column = any (λ n. shows written (panel_of d n) row column) d.order

-- a number is given a panel, if that is small enough to lie on a screen
abbrev pub with_panel : Deck → ℕ → Panel → Deck
with_panel d number p = cond (is_small (Some p)) (record { given = slice_set d.given number (Some p); order = d.order }) d

-- a panel with another place
abbrev pub moved_to : Panel → ℕ → ℕ → Panel
moved_to p row column = record { window = p.window; view = p.view; at = spot row column }

abbrev pub with_place : Deck → ℕ → Option Panel → ℕ → ℕ → Deck
with_place d number None row column = d
with_place d number (Some p) row column = with_panel d number (moved_to p row column)

-- another order
abbrev pub with_order : Deck → List ℕ → Deck
with_order d order = record { given = d.given; order = order }
