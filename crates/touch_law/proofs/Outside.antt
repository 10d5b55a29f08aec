-- Outside the touched ranges the picture is as it was.
use Rattle.std.proofs.Common.{◌≡◌, ℕ, Bool, false, ◌||◌, List, [], ◌∷◌, ◌++◌, length, get_or, Some, None, Option, sym, refl, ap, ◌∙◌, subst, inl, inr, arith}
use Rattle.std.proofs.lemmas.Bool.{both_ways, cases_Bool, cond-true, cond-false, or_parts}
use Rattle.places.specs.declared.Spot.{Spot}
use Rattle.cells.specs.Kinds.{Layer, Glyph}
use Rattle.orders.specs.Orders.{has, without}
use Rattle.ranges.specs.Ranges.{Range, inside}
use Rattle.ranges.proofs.Touches.{get_or-touch}
use Rattle.panels.specs.Places.{covers}
use Rattle.panels.specs.Decks.{Deck, panel_of, is_shown, with_order, moved_to, topmost}
use Rattle.panels.specs.Pictures.{is_seen, raw}
use Rattle.panels.specs.declared.panel.Panel.{Panel}
use Rattle.screen.specs.States.{State, with_deck, touched_at}
use Rattle.screen.specs.PanelCalls.{deck_with, reordered, relocated, relocated_panel}
use Rattle.touch_law.specs.Law.{OnlyTouched}
use Rattle.touch_law.proofs.Rows.{mended_same, outside_near, near_none, same_columns}
use Rattle.touch_law.proofs.Tops.{topmost_push, topmost_front, topmost_without}
use Rattle.touch_law.proofs.Raw.{bare_unseen, raw_order, raw_given}

module _ {C : Type 0} (l : Layer C) (g : Glyph C) (s : State) (memory : List C) (long : length s.ranges ≡ s.rows) where
  -- raw cells that change are touched
  pub only_from : (d : Deck) (after : List C) (hit : ℕ → ℕ → Bool) → ((r x : ℕ) → hit r x ≡ false → raw l after d r x ≡ raw l memory s.deck r x) → OnlyTouched l g s memory (touched_at (with_deck s d) hit) after
  only_from d after hit same row column h b out =
      mended_same l g (raw l after d row) (raw l memory s.deck row) s.columns (hit row) (λ x _ e. same row x e) column b
      (outside_near s.columns (get_or s.ranges row None) (hit row) column b
      (ap (λ (o : Option Range). inside o column) (sym (get_or-touch s.columns s.ranges hit row None (omega arith))) ∙ out))

  -- none change
  pub only_same : (t : State) (after : List C) → t.columns ≡ s.columns → ((r x : ℕ) → raw l after t.deck r x ≡ raw l memory s.deck r x) → OnlyTouched l g s memory t after
  only_same t after wide same row column h b out =
      same_columns l g (raw l after t.deck row) t.columns s.columns column wide
      ∙ mended_same l g (raw l after t.deck row) (raw l memory s.deck row) s.columns (λ _. false) (λ x _ _. same row x) column b (near_none column)

  -- the order changes
  only_order : (number : ℕ) (order : List ℕ) → ((r c : ℕ) → covers (panel_of s.deck number) r c ≡ false → topmost (λ n. is_seen l memory (panel_of s.deck n) r c) order ≡ topmost (λ n. is_seen l memory (panel_of s.deck n) r c) s.deck.order) → OnlyTouched l g s memory (reordered s number order) memory
  only_order number order e =
      only_from (with_order s.deck order) memory (covers (panel_of s.deck number)) (λ r x f. raw_order l memory s.deck order r x (e r x f))

  unseen : (number r c : ℕ) → covers (panel_of s.deck number) r c ≡ false → is_seen l memory (panel_of s.deck number) r c ≡ false
  unseen number r c f = bare_unseen l memory (panel_of s.deck number) r c f

  pub only_shown : (number : ℕ) → OnlyTouched l g s memory (reordered s number (s.deck.order ++ number ∷ [])) memory
  only_shown number = only_order number (s.deck.order ++ number ∷ []) (λ r c f. topmost_push _ number (unseen number r c f) s.deck.order)

  pub only_hidden : (number : ℕ) → OnlyTouched l g s memory (reordered s number (without number s.deck.order)) memory
  only_hidden number = only_order number (without number s.deck.order) (λ r c f. topmost_without _ number (unseen number r c f) s.deck.order)

  pub only_raised : (number : ℕ) → OnlyTouched l g s memory (reordered s number (without number s.deck.order ++ number ∷ [])) memory
  only_raised number =
      only_order number (without number s.deck.order ++ number ∷ [])
      (λ r c f. topmost_push _ number (unseen number r c f) (without number s.deck.order) ∙ topmost_without _ number (unseen number r c f) s.deck.order)

  pub only_lowered : (number : ℕ) → OnlyTouched l g s memory (reordered s number (number ∷ without number s.deck.order)) memory
  only_lowered number =
      only_order number (number ∷ without number s.deck.order)
      (λ r c f. topmost_front _ number (unseen number r c f) (without number s.deck.order) ∙ topmost_without _ number (unseen number r c f) s.deck.order)

  -- a hidden panel is given or moved
  pub only_given : (number : ℕ) (q : Panel) → is_shown s.deck number ≡ false → OnlyTouched l g s memory (with_deck s (deck_with s.deck number q)) memory
  only_given number q hidden =
      only_same (with_deck s (deck_with s.deck number q)) memory refl
      (λ r x. raw_given l memory s.deck number q r x (λ n t k. absurd (both_ways (has n s.deck.order) (ap (λ (m : ℕ). has m s.deck.order) k ∙ hidden) t)))

  -- a shown one is moved
  only_moved : (number : ℕ) (p q : Panel) → Some p ≡ panel_of s.deck number → OnlyTouched l g s memory (touched_at (with_deck s (deck_with s.deck number q)) (λ r c. covers (Some p) r c || covers (Some q) r c)) memory
  only_moved number p q e =
      only_from (deck_with s.deck number q) memory (λ r c. covers (Some p) r c || covers (Some q) r c)
      (λ r x f.
      let parts = or_parts (covers (Some p) r x) (covers (Some q) r x) f in
      raw_given l memory s.deck number q r x (λ n t k. (ap (λ (m : ℕ). covers (panel_of s.deck m) r x) k ∙ ap (λ (o : Option Panel). covers o r x) (sym e) ∙ parts.0, parts.1)))

  relocated_only : (number : ℕ) (to : Spot) (o : Option Panel) → o ≡ panel_of s.deck number → OnlyTouched l g s memory (relocated s number o to) memory
  relocated_only number to None e = only_same s memory refl (λ r x. refl)
  relocated_only number to (Some p) e =
      elim (cases_Bool (is_shown s.deck number)) [
        | inl t ↦ subst (λ (x : State). OnlyTouched l g s memory x memory) (sym (cond-true (is_shown s.deck number) _ _ t)) (only_moved number p (moved_to p to.row to.column) e)
        | inr f ↦ subst (λ (x : State). OnlyTouched l g s memory x memory) (sym (cond-false (is_shown s.deck number) _ _ f)) (only_given number (moved_to p to.row to.column) f)
      ]

  pub only_relocated : (number : ℕ) (to : Spot) → OnlyTouched l g s memory (relocated_panel s number to) memory
  only_relocated number to = relocated_only number to (panel_of s.deck number) refl
