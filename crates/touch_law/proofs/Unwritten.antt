-- Cells that a call on windows does not write.
use Rattle.std.proofs.Common.{◌≡◌, ℕ, ◌+◌, ◌-◌, ◌<◌, Bool, true, false, List, length, get_or, take, Some, None, Option, sym, refl, ap, ◌∙◌, inl, inr, arith}
use Rattle.std.proofs.lemmas.List.{get_or_default, get_or-take, length-take}
use Rattle.std.proofs.lemmas.Bool.{cases_Bool, cond-false, and_left, and_right, ltb-true}
use Rattle.std.proofs.lemmas.Bool.Decides.{nat_tests}
use Rattle.std.proofs.lemmas.Grind.{common_steps}
use Rattle.cells.specs.Kinds.{Layer, Glyph}
use Rattle.areas.specs.Addresses.{area, in_span, in_area, row_part, address, ends_below}
use Rattle.areas.specs.Memories.{by_address}
use Rattle.areas.specs.declared.Area.{Area}
use Rattle.areas.proofs.AddressLaws.{one_row, rows_push, row_end}
use Rattle.areas.proofs.AreaEnds.{Ends, ends_facts}
use Rattle.areas.proofs.MemoryLaws.{length-by_address, get_or-by_address}
use Rattle.cell_memory.specs.Writing.{cell_at, filled, written}
use Rattle.windows.specs.Cells.{last_row, scrolled, on_corner, on_edge, edged}
use Rattle.windows.specs.Tables.{table_of, is_window, area_of}
use Rattle.windows.specs.declared.records.Windows.{Windows}
use Rattle.panels.specs.Places.{covers, spot_address, shows}
use Rattle.panels.specs.declared.panel.Panel.{Panel}
use Rattle.panels.proofs.SmallPanels.{covered_row, covered_column}
use Rattle.screen.specs.Views.{view_below}

-- a corner lies in an end row
no_corner : (a : Area) (x : ℕ) → 0 < a.width → in_span a.base a.width x ≡ false → in_span (last_row a) a.width x ≡ false → on_corner a x ≡ false
no_corner a x wide e f = grind (arith, nat_tests)

-- a window of a table has rows and columns
pub window_ends : (w : Windows) (window : ℕ) → is_window (table_of w) window ≡ true → Ends w.taken (area_of (table_of w) window)
window_ends w window t =
    let h : window < w.count = omega (arith, ltb-true window (length (take w.count w.areas)) t, length-take w.count w.areas) in
    ends_facts w.taken (area_of (table_of w) window)
    (ap (ends_below w.taken) (get_or-take w.count w.areas window (area 0 0 0 0) h) ∙ w.inside window h)

-- what lies past the cells that are taken is shown nowhere
pub past_unshown : (taken count : ℕ) (p : Option Panel) (r c : ℕ) → view_below taken p ≡ true → shows (in_span taken count) p r c ≡ false
past_unshown taken count None r c e = refl
past_unshown taken count (Some p) r c e =
    elim (cases_Bool (covers (Some p) r c)) [
      | inl t ↦
          let ends = ends_facts taken p.view e in
          let low = row_end p.view.base p.view.pitch p.view.height p.view.width (r - p.at.row) taken (covered_row p r c t) ends.last in
          let right = covered_column p r c t in
          let past : in_span taken count (spot_address (Some p) r c) ≡ false = grind (arith, nat_tests) in
          and_right (covers (Some p) r c) _ past
      | inr f ↦ and_left (covers (Some p) r c) _ f
    ]

module _ {C : Type 0} (l : Layer C) (memory : List C) where
  abbrev pub Kept : (ℕ → Bool) → List C → Type 0
  Kept at after = (x : ℕ) → at x ≡ false → get_or after x l.punched ≡ get_or memory x l.punched

  kept_cell : (f : ℕ → C) (x : ℕ) → f x ≡ cell_at l memory x → get_or (by_address memory f) x l.punched ≡ get_or memory x l.punched
  kept_cell f x e =
      let long = length-by_address memory f in
      let new = get_or-by_address memory f x l.punched in
      let blank = get_or_default memory x l.blank l.punched in
      grind (arith, common_steps)

  pub written_kept : (a : Area) (row column : ℕ) (cells : List C) → Kept (in_area (row_part a row column (length cells))) (by_address memory (written l memory (address a row column) cells))
  written_kept a row column cells x e =
      kept_cell (written l memory (address a row column) cells) x (cond-false _ _ (cell_at l memory x) (sym (one_row (address a row column) a.pitch (length cells) x) ∙ e))

  pub filled_kept : (a : Area) (row column count : ℕ) (c : C) → Kept (in_area (row_part a row column count)) (by_address memory (filled l memory (address a row column) count c))
  filled_kept a row column count c x e =
      kept_cell (filled l memory (address a row column) count c) x (cond-false _ c (cell_at l memory x) (sym (one_row (address a row column) a.pitch count x) ∙ e))

  pub span_kept : (from count : ℕ) (c : C) → Kept (in_span from count) (by_address memory (filled l memory from count c))
  span_kept from count c x e = kept_cell (filled l memory from count c) x (cond-false _ c (cell_at l memory x) e)

  pub scrolled_kept : (a : Area) → 0 < a.height → Kept (in_area a) (by_address memory (scrolled l memory a))
  scrolled_kept a tall x e =
      let height : a.height ≡ a.height - 1 + 1 = omega arith in
      let rows = rows_push a.base a.pitch (a.height - 1) a.width x in
      kept_cell (scrolled l memory a) x (grind (arith, nat_tests))

  pub edged_kept : (g : Glyph C) (a : Area) (attributes : ℕ) → 0 < a.width → Kept (on_edge a) (by_address memory (edged l g memory a attributes))
  edged_kept g a attributes wide x e =
      let ends : in_span a.base a.width x ≡ false → in_span (last_row a) a.width x ≡ false → on_corner a x ≡ false = no_corner a x wide in
      kept_cell (edged l g memory a attributes) x (grind (arith, common_steps))
