-- The spots at which shown panels show addresses that were written.
use Rattle.std.proofs.Common.{◌≡◌, ℕ, ◌+◌, ◌-◌, ◌*◌, ◌^◌, ◌≤◌, min, Bool, true, false, ◌||◌, List, [], ◌∷◌, map, zero, suc, get_or, Some, None, Option, refl, ◌∙◌, arith}
use Rattle.std.proofs.lemmas.List.Folds.{list_any_none}
use Rattle.std.proofs.lemmas.Bool.Decides.{nat_tests}
use Rattle.areas.specs.Addresses.{in_span}
use Rattle.areas.proofs.AddressLaws.{row_end}
use Rattle.areas.proofs.AreaEnds.{ends_facts}
use Rattle.panels.specs.Places.{covers, spot_address, is_small, shows}
use Rattle.panels.specs.Decks.{Deck, deck_of, panel_in, panel_of, any, hit}
use Rattle.panels.specs.declared.panel.Panel.{Panel}
use Rattle.panels.specs.declared.small.SmallPanel.{SmallPanel}
use Rattle.panels.specs.declared.records.Panels.{Panels}
use Rattle.panels.proofs.SmallPanels.{small_view, covered_row, covered_column}

-- tests that agree on every number
pub any_like : (p q : ℕ → Bool) (xs : List ℕ) → ((n : ℕ) → p n ≡ q n) → any p xs ≡ any q xs
any_like p q [] e = refl
any_like p q (x ∷ xs) e = grind (arith, e x, any_like p q xs e)

any_or : (p q : ℕ → Bool) (xs : List ℕ) → any (λ n. p n || q n) xs ≡ (any p xs || any q xs)
any_or p q [] = refl
any_or p q (x ∷ xs) = grind (arith, nat_tests, any_or p q xs)

module _ (d : Deck) where
  pub hit_none : (w : ℕ → Bool) (r c : ℕ) → ((x : ℕ) → w x ≡ false) → hit d w r c ≡ false
  hit_none w r c e = list_any_none _ d.order (λ k n b. let h = e (spot_address (panel_of d (get_or d.order k n)) r c) in grind arith)

  pub hit_or : (w v : ℕ → Bool) (r c : ℕ) → hit d (λ x. w x || v x) r c ≡ (hit d w r c || hit d v r c)
  hit_or w v r c =
      any_like _ _ d.order (λ n. let z : shows (λ x. w x || v x) (panel_of d n) r c ≡ (shows w (panel_of d n) r c || shows v (panel_of d n) r c) = grind arith in z)
      ∙ any_or (λ n. shows w (panel_of d n) r c) (λ n. shows v (panel_of d n) r c) d.order

-- a small panel shows small addresses only
small_address : (p : Option Panel) (r c : ℕ) → is_small p ≡ true → covers p r c ≡ true → spot_address p r c ≤ 65535
small_address None r c s t = omega arith
small_address (Some p) r c s t =
    let e = ends_facts 65535 p.view (small_view p s) in
    let low = row_end p.view.base p.view.pitch p.view.height p.view.width (r - p.at.row) 65535 (covered_row p r c t) e.last in
    omega (arith, low, covered_column p r c t)

shows_small : (w v : ℕ → Bool) (p : Option Panel) (r c : ℕ) → is_small p ≡ true → ((x : ℕ) → x ≤ 65535 → w x ≡ v x) → shows w p r c ≡ shows v p r c
shows_small w v p r c s e = let h = small_address p r c s in grind arith

-- all panels that are kept are
small_in : (p : Option SmallPanel) → is_small (panel_in p) ≡ true
small_in None = refl
small_in (Some p) = p.small

all_small : (given : List (Option SmallPanel)) (n : ℕ) → is_small (get_or (map panel_in given) n None) ≡ true
all_small [] n = refl
all_small (p ∷ given) zero = small_in p
all_small (p ∷ given) (suc n) = all_small given n

pub hit_small : (s : Panels) (w v : ℕ → Bool) (r c : ℕ) → ((x : ℕ) → x ≤ 65535 → w x ≡ v x) → hit (deck_of s) w r c ≡ hit (deck_of s) v r c
hit_small s w v r c e = any_like _ _ (deck_of s).order (λ n. shows_small w v (panel_of (deck_of s) n) r c (all_small s.given n) e)

-- a row whose address would not fit its type shows nowhere
pub span_saturated : (base row pitch width product start x : ℕ) → x ≤ 65535 → product ≡ min (row * pitch) (2 ^ 64 - 1) → start ≡ min (base + product) (2 ^ 64 - 1) → in_span start width x ≡ in_span (base + row * pitch) width x
span_saturated base row pitch width product start x h e f = grind (arith, nat_tests)
