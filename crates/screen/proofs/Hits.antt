-- What shows the end rows, the first and the last column of an area shows its edge.
use Rattle.std.proofs.Common.{◌≡◌, ℕ, ◌+◌, ◌-◌, Bool, ◌&&◌, ◌||◌, sym, ap, ◌∙◌}
use Rattle.areas.specs.Addresses.{area, in_area}
use Rattle.areas.specs.declared.Area.{Area}
use Rattle.std.proofs.Math.Bool.{or_assoc}
use Rattle.windows.specs.Cells.{end_rows, on_edge}
use Rattle.windows.proofs.Drawn.{ends_are}
use Rattle.panels.specs.Places.{covers, spot_address}
use Rattle.panels.specs.Decks.{Deck, panel_of, hit}
use Rattle.panels.proofs.Hits.{any_like, hit_or}

pub edge_hit : (d : Deck) (a : Area) (r c : ℕ) → ((hit d (in_area (end_rows a)) r c || hit d (in_area (area a.base a.pitch a.height 1)) r c) || hit d (in_area (area (a.base + (a.width - 1)) a.pitch a.height 1)) r c) ≡ hit d (on_edge a) r c
edge_hit d a r c =
    let ends : ℕ → Bool = in_area (end_rows a) in
    let left : ℕ → Bool = in_area (area a.base a.pitch a.height 1) in
    let right : ℕ → Bool = in_area (area (a.base + (a.width - 1)) a.pitch a.height 1) in
    ap (λ (b : Bool). b || hit d right r c) (sym (hit_or d ends left r c))
    ∙ sym (hit_or d (λ x. ends x || left x) right r c)
    ∙ any_like _ _ d.order (λ n. let x = spot_address (panel_of d n) r c in ap (λ (b : Bool). covers (panel_of d n) r c && b) (or_assoc (ends x) (left x) (right x) ∙ ap (λ (b : Bool). b || (left x || right x)) (ends_are a x)))
