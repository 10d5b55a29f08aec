-- A terminal over a grid in memory: its meaning is sound, and what moving and putting make of it.
use Rattle.std.proofs.Common.{◌≡◌, ℕ, ◌+◌, ◌*◌, ◌%◌, ◌^◌, ◌<◌, ◌≤◌, Bool, true, false, cond, ◌&&◌, ltb, List, [], length, Some, None, Ok, Err, Option, Result, sym, refl, ap, ◌∙◌, inl, inr, arith, MatchResult}
use Rattle.std.proofs.lemmas.Bool.{both_ways, and_parts, and_from, cases_Bool, cond-true, cond-false, eqb-true, ltb-true, lt-ltb}
use Rattle.faults.specs.declared.Fault.{Fault}
use Rattle.faults.specs.Refusals.{fault_of}
use Rattle.cells.specs.Kinds.{Layer, Glyph}
use Rattle.put_rule.specs.Grids.{rows_of, put_grid}
use Rattle.grids.specs.GridViews.{fitting, PutInto}
use Rattle.grids.specs.declared.grids.Grid.{Grid}
use Rattle.put_rule.proofs.GridRows.{length-rows, length-row}
use Rattle.terminal.specs.Meanings.{Meaning, Sound, on_grid}
use Rattle.terminal.specs.Operations.{spot, moved_on, put_cells, with_room, perform, Move}
use Rattle.terminal.specs.Devices.{usable, known, over_grid}
use Rattle.places.specs.declared.Spot.{Spot}

-- what an answer that is no refusal promises
pub accepted : (P : Type 0) (Q : Fault → Type 0) (r : Result (Unit {0}) Fault) → fault_of r ≡ None → MatchResult r (λ _. P) Q → P
accepted P Q (Ok x) e p = p
accepted P Q (Err f) e p = absurd (let z : ◌≡◌ {A = ℕ} 0 1 = cc in omega arith)

-- a known cursor is on the grid
pub known_on : (rows columns : ℕ) (cursor : Option Spot) (s : Spot) → known rows columns cursor ≡ Some s → (s.row < rows) × (s.column < columns)
known_on rows columns None s e = absurd (let z : ◌≡◌ {A = ℕ} 0 1 = cc in omega arith)
known_on rows columns (Some t) s e =
    elim (cases_Bool (ltb t.row rows && ltb t.column columns)) [
      | inl on ↦
          let same : t ≡ s = let f : Some t ≡ Some s = sym (cond-true _ (Some t) None on) ∙ e in cc in
          let parts = and_parts (ltb t.row rows) (ltb t.column columns) on in
          let both : (t.row < rows) × (t.column < columns) = (ltb-true t.row rows parts.0, ltb-true t.column columns parts.1) in
          rw same at both
      | inr off ↦ absurd (let f : None ≡ Some s = sym (cond-false _ (Some t) None off) ∙ e in let z : ◌≡◌ {A = ℕ} 0 1 = cc in omega arith)
    ]

-- a cursor on the grid is known
pub on_known : (rows columns row column : ℕ) → (ltb row rows && ltb column columns) ≡ true → known rows columns (Some (spot row column)) ≡ Some (spot row column)
on_known rows columns row column h = rw h

-- and so is what comes after a cursor on the grid
pub moved_known : (rows columns : ℕ) (s : Spot) (n : ℕ) → s.row < rows → known rows columns (moved_on columns (Some s) n) ≡ moved_on columns (Some s) n
moved_known rows columns s n h =
    elim (cases_Bool (ltb (s.column + n) columns)) [
      | inl on ↦ rw on (on_known rows columns s.row (s.column + n) (and_from (ltb s.row rows) (ltb (s.column + n) columns) (lt-ltb s.row rows h) on))
      | inr off ↦ rw off
    ]

-- a size of which a spot is on the grid is usable
pub usable_since : (fit : Bool) (rows columns row column : ℕ) → row < cond fit rows 0 → column < cond fit columns 0 → (fit ≡ true) × (row < rows) × (column < columns)
usable_since true rows columns row column h k = (refl, h, k)
usable_since false rows columns row column h k = absurd (omega arith)

module _ {C : Type 0} where
  pub sound_over : (fit : Bool) (t : Grid C) (cursor : Option Spot) (room need tally : ℕ) → (fit ≡ true → fitting t ≡ true) → need ≤ 4096 → Sound (over_grid fit t cursor room need tally)
  sound_over true t cursor room need tally h small =
      let size = eqb-true (length t.cells.now) (t.size.rows * t.size.columns) (h refl) in
      record {
        tall = length-rows t.size.rows t.size.columns t.cells.now;
        wide = λ row k. length-row t.size.rows t.size.columns t.cells.now row k (omega arith);
        cursor_row = λ s e. (known_on t.size.rows t.size.columns cursor s e).0;
        cursor_column = λ s e. (known_on t.size.rows t.size.columns cursor s e).1;
        small_need = small;
      }
  sound_over false t cursor room need tally h small = record {
    tall = refl;
    wide = λ row k. absurd (omega arith);
    cursor_row = λ s e. (known_on 0 0 cursor s e).0;
    cursor_column = λ s e. (known_on 0 0 cursor s e).1;
    small_need = small;
  }

  -- the cursor moved to a spot of the grid
  pub move_over : (l : Layer C) (g : Glyph C) (fit : Bool) (t : Grid C) (cursor : Option Spot) (room left need tally row column : ℕ) → on_grid (over_grid fit t cursor room need tally) row column ≡ true → over_grid fit t (Some (spot row column)) left need tally ≡ with_room left (perform l g (over_grid fit t cursor room need tally) (Move row column))
  move_over l g fit t cursor room left need tally row column h =
      rw (on_known (cond fit t.size.rows 0) (cond fit t.size.columns 0) row column h)

  -- a grid that was put into is usable as before
  pub still_usable : (limits : ℕ → ℕ → Bool) (l : Layer C) (g : Glyph C) (t u : Grid C) (row column : ℕ) (new : List C) → PutInto l g t u row column new → usable limits u ≡ usable limits t
  still_usable limits l g t u row column new p = rw (p.same_rows, p.same_columns, p.same_length)

  same_meaning : (rows rows' columns columns' : ℕ) (grid grid' : List (List C)) (cursor cursor' : Option Spot) (room need tally tally' : ℕ) → rows ≡ rows' → columns ≡ columns' → grid ≡ grid' → cursor ≡ cursor' → tally ≡ tally' → ◌≡◌ {A = Meaning C} record { rows = rows; columns = columns; grid = grid; cursor = cursor; room = room; need = need; tally = tally } record { rows = rows'; columns = columns'; grid = grid'; cursor = cursor'; room = room; need = need; tally = tally' }
  same_meaning rows rows' columns columns' grid grid' cursor cursor' room need tally tally' a b c d e = rw (a, b, c, d, e)

  -- the rows of a grid that was put into
  pub put_rows : (l : Layer C) (g : Glyph C) (t u : Grid C) (row column : ℕ) (new : List C) → fitting t ≡ true → PutInto l g t u row column new → rows_of u.size.rows u.size.columns u.cells.now ≡ put_grid l g (rows_of t.size.rows t.size.columns t.cells.now) row column new
  put_rows l g t u row column new f p =
      let fit-u : fitting u ≡ true = still_usable (λ _ _. true) l g t u row column new p ∙ f in
      sym (cond-true (fitting u) _ [] fit-u) ∙ p.put ∙ ap (λ (rows : List (List C)). put_grid l g rows row column new) (cond-true (fitting t) _ [] f)

  -- cells put from the cursor on
  pub put_over : (l : Layer C) (g : Glyph C) (fit : Bool) (t u : Grid C) (cursor after : Option Spot) (room left need tally count : ℕ) (s : Spot) (new : List C) → fit ≡ true → fitting t ≡ true → (over_grid fit t cursor room need tally).cursor ≡ Some s → PutInto l g t u s.row s.column new → after ≡ moved_on t.size.columns (Some s) (length new) → count ≡ (tally + length new) % 2 ^ 64 → over_grid fit u after left need count ≡ with_room left (put_cells l g (over_grid fit t cursor room need tally) new)
  put_over l g false t u cursor after room left need tally count s new e f k p m n = absurd (both_ways false refl e)
  put_over l g true t u cursor after room left need tally count s new e f k p m n =
      let on = known_on t.size.rows t.size.columns cursor s k in
      rw k
      (same_meaning u.size.rows _ u.size.columns _ _ _ _ _ left need count _ p.same_rows p.same_columns (put_rows l g t u s.row s.column new f p)
      (rw (p.same_rows, p.same_columns, m) (moved_known t.size.rows t.size.columns s (length new) on.0))
      n)
