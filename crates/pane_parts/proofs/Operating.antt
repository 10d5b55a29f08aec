-- What an operation below means for the pane.
use Rattle.std.proofs.Common.{◌≡◌, ℕ, suc, ◌+◌, ◌-◌, ◌<◌, ◌≤◌, Bool, true, false, cond, ltb, leb, List, [], length, is_some, Some, None, Ok, Err, Option, Result, sym, refl, ap, ◌∙◌, ap₂, inl, inr, arith}
use Rattle.std.proofs.lemmas.Bool.{both_ways, and_parts, and_from, leb-true, ltb-true, cases_lt, lt-ltb, le-ltb, le-leb, lt-leb, cond-true}
use Rattle.std.proofs.lemmas.Bool.Decides.{nat_tests}
use Rattle.faults.specs.declared.Fault.{Fault}
use Rattle.cells.specs.Kinds.{Layer, Glyph}
use Rattle.put_rule.specs.Grids.{row_at, put_grid}
use Rattle.terminal.specs.Meanings.{Meaning, Sound}
use Rattle.terminal.specs.Operations.{Operation, PutPair, refusal, row_of, column_of, spot, moved_on, put_cells, perform, with_room, Effect}
use Rattle.places.specs.declared.Spot.{Spot}
use Rattle.pane_parts.specs.Panes.{fits_in, pane_fits, part, inside, seen_from, pane_rows, pane_columns, pane_of}
use Rattle.places.specs.declared.Rectangle.{Rectangle}
use Rattle.pane_parts.proofs.GridParts.{length_cut, part_row, length_part, put_part}

-- a cursor that the pane knows: at a spot inside the rectangle, which is fit
pub record Seen (area : Rectangle) (fit : Bool) (cursor : Option Spot) : Type 0 where
  pub at : Spot
  pub is : cursor ≡ Some at
  pub fits : fit ≡ true
  pub row_from : area.top ≤ at.row
  pub row_to : at.row < area.top + area.height
  pub column_from : area.left ≤ at.column
  pub column_to : at.column < area.left + area.width

some_cond : {X : Type 0} (b : Bool) (x : X) → is_some (cond b (Some x) None) ≡ true → b ≡ true
some_cond true x e = refl
some_cond false x e = absurd (both_ways false refl e)

inside_parts : (area : Rectangle) (rows columns : ℕ) (s : Spot) → inside area rows columns s ≡ true → ((area.top ≤ s.row) × (s.row < area.top + rows)) × ((area.left ≤ s.column) × (s.column < area.left + columns))
inside_parts area rows columns s e =
    let h = and_parts _ _ e in
    let r = and_parts _ _ h.0 in
    let c = and_parts _ _ h.1 in
    ((leb-true _ _ r.0, ltb-true _ _ r.1), (leb-true _ _ c.0, ltb-true _ _ c.1))

pub seen : (area : Rectangle) (fit : Bool) (cursor : Option Spot) → is_some (seen_from area (cond fit area.height 0) (cond fit area.width 0) cursor) ≡ true → Seen area fit cursor
seen area fit None e = absurd (both_ways false refl e)
seen area true (Some s) e =
    let p = inside_parts area area.height area.width s (some_cond _ _ e) in
    record {
      at = s;
      is = refl;
      fits = refl;
      row_from = p.0.0;
      row_to = p.0.1;
      column_from = p.1.0;
      column_to = p.1.1;
    }
seen area false (Some s) e = let p = inside_parts area 0 0 s (some_cond _ _ e) in absurd (omega arith)

module _ {C : Type 0} (l : Layer C) (g : Glyph C) (area : Rectangle) (s : Spot) (new : List C) where
  -- the part of the grid after cells were put inside it
  grid_put : (fit : Bool) (grid : List (List C)) → fit ≡ true → area.top ≤ s.row → s.row < area.top + area.height → area.left ≤ s.column → area.top + area.height ≤ length grid → area.left + area.width ≤ length (row_at grid s.row) → s.column - area.left + length new ≤ area.width → cond fit (part area (put_grid l g grid s.row s.column new)) [] ≡ put_grid l g (cond fit (part area grid) []) (s.row - area.top) (s.column - area.left) new
  grid_put fit grid e top bottom left tall wide narrow =
      let row : s.row ≡ area.top + (s.row - area.top) = omega arith in
      let column : s.column ≡ area.left + (s.column - area.left) = omega arith in
      rw e (ap₂ (λ (i j : ℕ). part area (put_grid l g grid i j new)) row column
      ∙ put_part area l g grid (s.row - area.top) (s.column - area.left) new (omega arith) tall (rw row at wide) narrow)

  -- the cursor moves on in the pane as below, and is unknown past the pane's last column
  cursor_put : (columns : ℕ) → area.top ≤ s.row → s.row < area.top + area.height → area.left ≤ s.column → area.left + area.width ≤ columns → s.column - area.left + length new ≤ area.width → seen_from area area.height area.width (moved_on columns (Some s) (length new)) ≡ moved_on area.width (Some (spot (s.row - area.top) (s.column - area.left))) (length new)
  cursor_put columns top bottom left wide narrow =
      elim (cases_lt (s.column - area.left + length new) area.width) [
        | inl on ↦
            let below : ltb (s.column + length new) columns ≡ true = lt-ltb _ _ (omega arith) in
            let here : ltb (s.column - area.left + length new) area.width ≡ true = lt-ltb _ _ on in
            let within : inside area area.height area.width (spot s.row (s.column + length new)) ≡ true = grind (arith, nat_tests) in
            let same : s.column + length new - area.left ≡ s.column - area.left + length new = omega arith in
            rw (below, here) (rw (within, same))
        | inr off ↦
            let here : ltb (s.column - area.left + length new) area.width ≡ false = le-ltb _ _ off in
            elim (cases_lt (s.column + length new) columns) [
              | inl on ↦
                  let below : ltb (s.column + length new) columns ≡ true = lt-ltb _ _ on in
                  let out : inside area area.height area.width (spot s.row (s.column + length new)) ≡ false = grind (arith, nat_tests) in
                  rw (below, here) (rw out)
              | inr past ↦ let below : ltb (s.column + length new) columns ≡ false = le-ltb _ _ past in rw (below, here)
            ]
      ]

-- a fit rectangle lies inside
fit_parts : (area : Rectangle) (rows columns : ℕ) → fits_in area rows columns ≡ true → (area.top + area.height ≤ rows) × (area.left + area.width ≤ columns)
fit_parts area rows columns e =
    let h = and_parts _ _ (and_parts _ _ e).1 in
    (leb-true _ _ h.0, leb-true _ _ h.1)

module _ {C : Type 0} (m : Meaning C) (area : Rectangle) (k : Seen area (pane_fits m area) m.cursor) where
  rows_are : pane_rows m area ≡ area.height
  rows_are = cond-true (pane_fits m area) area.height 0 k.fits

  pub columns_are : pane_columns m area ≡ area.width
  columns_are = cond-true (pane_fits m area) area.width 0 k.fits

  -- the pane's cursor
  pub seen_at : (pane_of m area).cursor ≡ Some (spot (k.at.row - area.top) (k.at.column - area.left))
  seen_at =
      let within : inside area area.height area.width k.at ≡ true = and_from _ _ (and_from _ _ (le-leb _ _ k.row_from) (lt-ltb _ _ k.row_to)) (and_from _ _ (le-leb _ _ k.column_from) (lt-ltb _ _ k.column_to)) in
      ap (seen_from area (pane_rows m area) (pane_columns m area)) k.is
      ∙ ap₂ (λ (r c : ℕ). seen_from area r c (Some k.at)) rows_are columns_are
      ∙ cond-true (inside area area.height area.width k.at) _ None within

  -- cells put below, inside the pane, are put in the pane
  pub pane_puts : (l : Layer C) (g : Glyph C) (new : List C) → Sound m → k.at.column - area.left + length new ≤ area.width → pane_of (put_cells l g m new) area ≡ put_cells l g (pane_of m area) new
  pane_puts l g new sound narrow =
      let fit = fit_parts area m.rows m.columns k.fits in
      let tall : area.top + area.height ≤ length m.grid = omega (arith, sound.tall) in
      let wide : area.left + area.width ≤ length (row_at m.grid k.at.row) = omega (arith, sound.wide k.at.row (omega arith)) in
      let grid : (pane_of (put_cells l g m new) area).grid ≡ (put_cells l g (pane_of m area) new).grid =
      ap (λ (o : Option Spot). cond (pane_fits m area) (part area (put_grid l g m.grid (row_of o) (column_of o) new)) []) k.is
      ∙ grid_put l g area k.at new (pane_fits m area) m.grid k.fits k.row_from k.row_to k.column_from tall wide narrow
      ∙ sym (ap (λ (o : Option Spot). put_grid l g (pane_of m area).grid (row_of o) (column_of o) new) seen_at) in
      let cursor : (pane_of (put_cells l g m new) area).cursor ≡ (put_cells l g (pane_of m area) new).cursor =
      ap (λ (o : Option Spot). seen_from area (pane_rows m area) (pane_columns m area) (moved_on m.columns o (length new))) k.is
      ∙ ap₂ (λ (r c : ℕ). seen_from area r c (moved_on m.columns (Some k.at) (length new))) rows_are columns_are
      ∙ cursor_put l g area k.at new m.columns k.row_from k.row_to k.column_from fit.1 narrow
      ∙ sym (ap₂ (λ (w : ℕ) (o : Option Spot). moved_on w o (length new)) columns_are seen_at) in
      ap₂ (λ (x : List (List C)) (o : Option Spot). record {
        rows = pane_rows m area;
        columns = pane_columns m area;
        grid = x;
        cursor = o;
        room = m.room;
        need = m.need;
        tally = (put_cells l g m new).tally;
      }) grid cursor

  -- an operation that puts cells inside the pane, by its answer below
  pub pane_effect : (l : Layer C) (g : Glyph C) (op : Operation C) (new : List C) → ((x : Meaning C) → perform l g x op ≡ put_cells l g x new) → Sound m → k.at.column - area.left + length new ≤ area.width → (n : Meaning C) (r : Result Unit Fault) → Effect l g m n op r → Effect l g (pane_of m area) (pane_of n area) op r
  pane_effect l g op new puts sound narrow n (Err f) e = ap (λ (x : Meaning C). pane_of x area) e
  pane_effect l g op new puts sound narrow n (Ok x) e = record {
    performed =
        ap (λ (y : Meaning C). pane_of y area) e.performed
        ∙ ap (λ (y : Meaning C). with_room n.room (pane_of y area)) (puts m)
        ∙ ap (with_room n.room) (pane_puts l g new sound narrow ∙ sym (puts (pane_of m area)));
    no_more_room = e.no_more_room;
    room_taken = e.room_taken;
  }

  -- the pane refuses to put a pair just where the terminal below does, but for its own last column
  pub pair_refused : (g : Glyph C) (c d : C) → suc (k.at.column - area.left) < area.width → refusal g m (PutPair c d) ≡ refusal g (pane_of m area) (PutPair c d)
  pair_refused g c d narrow =
      let fit = fit_parts area m.rows m.columns k.fits in
      let below : is_some m.cursor ≡ true = ap is_some k.is in
      let here : is_some (pane_of m area).cursor ≡ true = ap is_some seen_at in
      let on_below : leb m.columns (suc (column_of m.cursor)) ≡ false = ap (λ (o : Option Spot). leb m.columns (suc (column_of o))) k.is ∙ lt-leb _ _ (omega arith) in
      let on-here : leb (pane_columns m area) (suc (column_of (pane_of m area).cursor)) ≡ false = ap₂ (λ (w : ℕ) (o : Option Spot). leb w (suc (column_of o))) columns_are seen_at ∙ lt-leb _ _ narrow in
      rw (below, here, on_below, on-here)

-- a pane of a sound meaning is sound
module _ {C : Type 0} (m : Meaning C) (area : Rectangle) (sound : Sound m) where
  tall_part : (fit : Bool) → (fit ≡ true → area.top + area.height ≤ length m.grid) → length (cond fit (part area m.grid) []) ≡ cond fit area.height 0
  tall_part true h = length_part area m.grid (h refl)
  tall_part false h = refl

  wide_part : (fit : Bool) → (fit ≡ true → (area.top + area.height ≤ length m.grid) × ((r : ℕ) → r < area.height → area.left + area.width ≤ length (row_at m.grid (area.top + r)))) → (r : ℕ) → r < cond fit area.height 0 → length (row_at (cond fit (part area m.grid) []) r) ≡ cond fit area.width 0
  wide_part true h r below = ap length (part_row area m.grid r below (h refl).0) ∙ length_cut area.left area.width (row_at m.grid (area.top + r)) ((h refl).1 r below)
  wide_part false h r below = absurd (omega arith)

  cursor_in_part : (rows columns : ℕ) (cursor : Option Spot) (s : Spot) → seen_from area rows columns cursor ≡ Some s → (s.row < rows) × (s.column < columns)
  cursor_in_part rows columns None s e = absurd (let z : ◌≡◌ {A = ℕ} 0 1 = cc in omega arith)
  cursor_in_part rows columns (Some c) s e =
      let within = some_cond (inside area rows columns c) (spot (c.row - area.top) (c.column - area.left)) (ap is_some e) in
      let p = inside_parts area rows columns c within in
      let here : Some (spot (c.row - area.top) (c.column - area.left)) ≡ Some s = sym (cond-true (inside area rows columns c) _ None within) ∙ e in
      (omega (arith, ap row_of here), omega (arith, ap column_of here))

  pub pane_sound : Sound (pane_of m area)
  pane_sound =
      let inner = λ (e : pane_fits m area ≡ true). fit_parts area m.rows m.columns e in
      record {
        tall = tall_part (pane_fits m area) (λ e. omega (arith, (inner e).0, sound.tall));
        wide = wide_part (pane_fits m area) (λ e. (omega (arith, (inner e).0, sound.tall), λ r h. omega (arith, (inner e).0, (inner e).1, sound.wide (area.top + r) (omega (arith, (inner e).0)))));
        cursor_row = λ s e. (cursor_in_part (pane_rows m area) (pane_columns m area) m.cursor s e).0;
        cursor_column = λ s e. (cursor_in_part (pane_rows m area) (pane_columns m area) m.cursor s e).1;
        small_need = sound.small_need;
      }
