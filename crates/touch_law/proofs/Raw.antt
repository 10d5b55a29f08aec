-- Raw cells that a call leaves as they were.
use Rattle.std.proofs.Common.{◌≡◌, ℕ, Bool, true, false, not, ◌&&◌, List, length, get_or, set, Some, None, Option, sym, refl, ap, ◌∙◌, inl, inr}
use Rattle.std.proofs.lemmas.List.{get_or-set_same, get_or-set_other, set_past}
use Rattle.std.proofs.lemmas.Bool.{both_ways, cases_eq, cases_lt, and_left, and_cases}
use Rattle.cells.specs.Kinds.{Layer}
use Rattle.orders.specs.Orders.{has}
use Rattle.panels.specs.Places.{covers, spot_address, shows}
use Rattle.panels.specs.Decks.{Deck, panel_of, topmost, hit, with_order}
use Rattle.panels.specs.Pictures.{cell_of_panel, is_seen, top_of, cell_of_top, raw}
use Rattle.panels.specs.declared.panel.Panel.{Panel}
use Rattle.panels.proofs.Tops.{topmost_holds}
use Rattle.screen.specs.PanelCalls.{deck_with}
use Rattle.touch_law.proofs.Tops.{topmost_like, topmost_has, any_false}

module _ {C : Type 0} (l : Layer C) where
  -- what does not cover a spot is not seen there
  pub bare_unseen : (memory : List C) (p : Option Panel) (r c : ℕ) → covers p r c ≡ false → is_seen l memory p r c ≡ false
  bare_unseen memory p r c e = and_left (covers p r c) (not (l.clear (cell_of_panel l memory p r c))) e

  cell_same : (memory after : List C) (d e : Deck) (r c : ℕ) (o : Option ℕ) → ((n : ℕ) → o ≡ Some n → cell_of_panel l after (panel_of e n) r c ≡ cell_of_panel l memory (panel_of d n) r c) → cell_of_top l after e r c o ≡ cell_of_top l memory d r c o
  cell_same memory after d e r c None f = refl
  cell_same memory after d e r c (Some n) f = f n refl

  -- the same panel on top, with the same cell
  pub raw_same : (memory after : List C) (d e : Deck) (r c : ℕ) → top_of l after e r c ≡ top_of l memory d r c → ((n : ℕ) → top_of l memory d r c ≡ Some n → cell_of_panel l after (panel_of e n) r c ≡ cell_of_panel l memory (panel_of d n) r c) → raw l after e r c ≡ raw l memory d r c
  raw_same memory after d e r c t f = ap (cell_of_top l after e r c) t ∙ cell_same memory after d e r c (top_of l memory d r c) f

  -- another order with the same panel on top
  pub raw_order : (memory : List C) (d : Deck) (order : List ℕ) (r c : ℕ) → topmost (λ n. is_seen l memory (panel_of d n) r c) order ≡ topmost (λ n. is_seen l memory (panel_of d n) r c) d.order → raw l memory (with_order d order) r c ≡ raw l memory d r c
  raw_order memory d order r c e = raw_same memory memory d (with_order d order) r c e (λ n h. refl)

  -- a panel given anew, where neither it nor the one before covers the spot, or it is not shown
  module _ (memory : List C) (d : Deck) (number : ℕ) (q : Panel) (r c : ℕ) (off : (n : ℕ) → has n d.order ≡ true → n ≡ number → (covers (panel_of d n) r c ≡ false) × (covers (Some q) r c ≡ false)) where
    e : Deck
    e = deck_with d number q

    other : (n : ℕ) → (n ≡ number → ⊥) → get_or (set d.given number (Some q)) n None ≡ panel_of d n
    other n ne = get_or-set_other d.given number n (Some q) None ne

    covers_new : (n : ℕ) → n ≡ number → covers (panel_of d n) r c ≡ false → covers (Some q) r c ≡ false → covers (get_or (set d.given number (Some q)) n None) r c ≡ false
    covers_new n k a b =
        elim (cases_lt number (length d.given)) [
          | inl h ↦ ap (λ (m : ℕ). covers (get_or (set d.given number (Some q)) m None) r c) k ∙ ap (λ (p : Option Panel). covers p r c) (get_or-set_same d.given number (Some q) None h) ∙ b
          | inr h ↦ ap (λ (xs : List (Option Panel)). covers (get_or xs n None) r c) (set_past d.given number (Some q) h) ∙ a
        ]

    seen_same : (n : ℕ) → has n d.order ≡ true → is_seen l memory (get_or (set d.given number (Some q)) n None) r c ≡ is_seen l memory (panel_of d n) r c
    seen_same n t =
        elim (cases_eq n number) [
          | inl k ↦
              let both = off n t k in
              bare_unseen memory (get_or (set d.given number (Some q)) n None) r c (covers_new n k both.0 both.1) ∙ sym (bare_unseen memory (panel_of d n) r c both.0)
          | inr ne ↦ ap (λ (p : Option Panel). is_seen l memory p r c) (other n ne)
        ]

    pub raw_given : raw l memory (deck_with d number q) r c ≡ raw l memory d r c
    raw_given =
        raw_same memory memory d (deck_with d number q) r c
        (topmost_like (λ n. is_seen l memory (get_or (set d.given number (Some q)) n None) r c) (λ n. is_seen l memory (panel_of d n) r c) d.order seen_same)
        (λ n h. elim (cases_eq n number) [
          | inl k ↦
              let seen = topmost_holds (λ m. is_seen l memory (panel_of d m) r c) d.order n h in
              let t = topmost_has (λ m. is_seen l memory (panel_of d m) r c) d.order n h in
              absurd (both_ways (is_seen l memory (panel_of d n) r c) (bare_unseen memory (panel_of d n) r c (off n t k).0) seen)
          | inr ne ↦ ap (λ (p : Option Panel). cell_of_panel l memory p r c) (other n ne)
        ])

  -- cells written at addresses that are shown at no such spot
  module _ (memory after : List C) (at : ℕ → Bool) (kept : (x : ℕ) → at x ≡ false → get_or after x l.punched ≡ get_or memory x l.punched) (d : Deck) (r c : ℕ) (unhit : (n : ℕ) → has n d.order ≡ true → shows at (panel_of d n) r c ≡ false) where
    seen_kept : (n : ℕ) → has n d.order ≡ true → is_seen l after (panel_of d n) r c ≡ is_seen l memory (panel_of d n) r c
    seen_kept n t =
        elim (and_cases (covers (panel_of d n) r c) (at (spot_address (panel_of d n) r c)) (unhit n t)) [
          | inl f ↦ bare_unseen after (panel_of d n) r c f ∙ sym (bare_unseen memory (panel_of d n) r c f)
          | inr f ↦ ap (λ (x : C). covers (panel_of d n) r c && not (l.clear x)) (kept (spot_address (panel_of d n) r c) f)
        ]

    pub raw_kept : raw l after d r c ≡ raw l memory d r c
    raw_kept =
        raw_same memory after d d r c
        (topmost_like (λ n. is_seen l after (panel_of d n) r c) (λ n. is_seen l memory (panel_of d n) r c) d.order seen_kept)
        (λ n h.
        let seen = topmost_holds (λ m. is_seen l memory (panel_of d m) r c) d.order n h in
        let t = topmost_has (λ m. is_seen l memory (panel_of d m) r c) d.order n h in
        elim (and_cases (covers (panel_of d n) r c) (at (spot_address (panel_of d n) r c)) (unhit n t)) [
          | inl f ↦ absurd (both_ways (is_seen l memory (panel_of d n) r c) (bare_unseen memory (panel_of d n) r c f) seen)
          | inr f ↦ kept (spot_address (panel_of d n) r c) f
        ])

  pub raw_unhit : (memory after : List C) (at : ℕ → Bool) (d : Deck) (r c : ℕ) → ((x : ℕ) → at x ≡ false → get_or after x l.punched ≡ get_or memory x l.punched) → hit d at r c ≡ false → raw l after d r c ≡ raw l memory d r c
  raw_unhit memory after at d r c kept none = raw_kept memory after at kept d r c (λ n t. any_false (λ m. shows at (panel_of d m) r c) d.order none n t)
