-- What the dumb terminal makes of an operation that is not refused.
use Rattle.std.proofs.Common.{◌≡◌, ℕ, ◌+◌, ◌<◌, ◌≤◌, Bool, true, List, [], ◌∷◌, length, Some, None, Result, refl, ap, ◌∙◌, arith, MatchResult}
use Rattle.std.proofs.lemmas.Bool.{and_parts, lt-ltb, le-ltb, le-leb, cond-true}
use Rattle.faults.specs.declared.Fault.{Fault}
use Rattle.faults.specs.Refusals.{fault_of}
use Rattle.byte_cells.specs.declared.ByteCell.{ByteCell}
use Rattle.byte_cells.specs.ByteCells.{byte_layer, byte_glyph}
use Rattle.places.specs.declared.Spot.{Spot}
use Rattle.grids.specs.GridViews.{fitting, height, width, put_refusal, PutInto}
use Rattle.grids.specs.declared.grids.Grid.{Grid}
use Rattle.lines.specs.Sending.{room_of, send_refusal, Sent}
use Rattle.lines.specs.declared.Line.{Line}
use Rattle.terminal.specs.Operations.{Put, moved_on, perform}
use Rattle.terminal.specs.Devices.{over_grid}
use Rattle.terminal.proofs.Devices.{accepted, known_on, usable_since, still_usable, put_over}
use Rattle.devices.specs.Shown.{over, shown_in}
use Rattle.dumb.specs.Dumbs.{is_size, is_usable, shown_on}
use Rattle.dumb.specs.declared.DumbFace.{DumbFace}

-- a line with room for the bytes takes them
pub takes : (r : Result (Unit {0}) Fault) (l m : Line) (new : List ℕ) → 4 ≤ room_of l → length new ≤ 4 → fault_of r ≡ send_refusal l (length new) → MatchResult r (λ _. Sent l m new) (λ _. m ≡ l) → Sent l m new
takes r l m new h k e c =
    accepted (Sent l m new) (λ _. m ≡ l) r (rw (le-ltb (length l.bytes.now) (l.sent + length new) (omega arith)) at e) c

module _ (f : DumbFace) (s : Spot) (k : (shown_on f).cursor ≡ Some s) where
  -- a known cursor is at a spot of the grid's
  pub at_cursor : (is_usable f ≡ true) × (s.row < f.grid.size.rows) × (s.column < f.grid.size.columns)
  at_cursor =
      let on = known_on (shown_on f).rows (shown_on f).columns f.cursor s k in
      usable_since (is_usable f) f.grid.size.rows f.grid.size.columns s.row s.column on.0 on.1

  abbrev fit : fitting f.grid ≡ true
  fit = (and_parts (is_size f.grid.size.rows f.grid.size.columns) (fitting f.grid) at_cursor.0).1

  -- so the grid takes a cell there
  pub puts : (r : Result (Unit {0}) Fault) (u : Grid ByteCell) (cell : ByteCell) → fault_of r ≡ put_refusal (height f.grid) (width f.grid) s.row s.column 1 → MatchResult r (λ _. PutInto byte_layer byte_glyph f.grid u s.row s.column (cell ∷ [])) (λ _. u ≡ f.grid) → PutInto byte_layer byte_glyph f.grid u s.row s.column (cell ∷ [])
  puts r u cell e c =
      let inside : put_refusal (height f.grid) (width f.grid) s.row s.column 1 ≡ None =
      rw (cond-true (fitting f.grid) f.grid.size.rows 0 fit, cond-true (fitting f.grid) f.grid.size.columns 0 fit, lt-ltb s.row f.grid.size.rows at_cursor.1, le-leb (s.column + 1) f.grid.size.columns (let h = at_cursor.2 in omega arith)) in
      accepted (PutInto byte_layer byte_glyph f.grid u s.row s.column (cell ∷ [])) (λ _. u ≡ f.grid) r (e ∙ inside) c

  -- and the cell is shown
  pub put_done : (g : DumbFace) (cell : ByteCell) → PutInto byte_layer byte_glyph f.grid g.grid s.row s.column (cell ∷ []) → g.cursor ≡ moved_on f.grid.size.columns (Some s) 1 → shown_on g ≡ shown_in (perform byte_layer byte_glyph (over (shown_on f) 0 0 0) (Put cell))
  put_done g cell put after =
      ap shown_in
      (ap (λ (b : Bool). over_grid b g.grid g.cursor 0 0 1) (still_usable is_size byte_layer byte_glyph f.grid g.grid s.row s.column (cell ∷ []) put)
      ∙ put_over byte_layer byte_glyph (is_usable f) f.grid g.grid f.cursor g.cursor 0 0 0 0 1 s (cell ∷ []) at_cursor.0 fit k put after refl)
