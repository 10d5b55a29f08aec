-- What the emulator's screen shows for the terminal, before and after an operation.
use Rattle.std.proofs.Common.{◌≡◌, ℕ, ◌+◌, ◌<◌, ◌≤◌, Bool, true, false, cond, ◌&&◌, ltb, leb, List, [], length, Some, None, Option, refl, ap, ◌∙◌, arith}
use Rattle.std.proofs.lemmas.Bool.{both_ways, and_parts, and_from, leb-true, ltb-true, le-leb}
use Rattle.std.proofs.lemmas.List.{length-take}
use Rattle.cells.specs.Attributes.{are_attributes}
use Rattle.text_cells.specs.TextCells.{make, text_layer, text_glyph}
use Rattle.text_cells.specs.declared.TextCell.{TextCell}
use Rattle.text_cells.proofs.Making.{Shown as Drawn}
use Rattle.places.specs.declared.Spot.{Spot}
use Rattle.grids.specs.GridViews.{fitting, height, width}
use Rattle.terminal.specs.Meanings.{Sound}
use Rattle.terminal.specs.Operations.{Move, spot, put_cells, perform}
use Rattle.terminal.specs.Devices.{over_grid}
use Rattle.terminal.proofs.Devices.{known_on, sound_over, usable_since as on_usable}
use Rattle.devices.specs.Shown.{over, shown_in}
use Rattle.reader.specs.declared.states.State.{State}
use Rattle.reader.specs.declared.states.State.TheVariants.{Plain, InSequence, InCharacter}
use Rattle.emulator.specs.Screens.{Screen, with_state, with_cursor, with_pen, put_here, shows, read_bytes, CursorOnGrid}
use Rattle.emulator.specs.Emulators.{screen_of}
use Rattle.emulator.specs.declared.Emulator.{Emulator}
use Rattle.ecma_bytes.specs.Bytes.{put_bytes}
use Rattle.ecma_bytes.specs.RoundTrip.{plain, ReadsAsCharacter}
use Rattle.ecma_bytes.specs.Codes.{code_bytes}
use Rattle.ecma_bytes.specs.declared.codes.Code.{Code}
use Rattle.ecma48.specs.Ecmas.{shown_by, Reads}
use Rattle.ecma48.specs.declared.EcmaFace.{EcmaFace}
use Rattle.ecma48.specs.Sizes.{is_size, is_plain, is_usable, shown_on}

plain_state : (x : State) → is_plain x ≡ true → x ≡ Plain
plain_state Plain e = refl
plain_state (InSequence q) e = absurd (both_ways false refl e)
plain_state (InCharacter g) e = absurd (both_ways false refl e)

-- what a usable screen has
pub record Usable (s : Screen) : Type 0 where
  pub size : is_size s.rows s.columns ≡ true
  pub is_between : s ≡ plain s
  pub tall : s.rows ≤ 64
  pub wide : s.columns ≤ 128

pub usable : (s : Screen) → is_usable s ≡ true → Usable s
usable s e =
    let h = and_parts (is_size s.rows s.columns) (is_plain s.state) e in
    let sides = and_parts (leb 1 s.rows && leb s.rows 64) (leb 1 s.columns && leb s.columns 128) h.0 in
    record {
      size = h.0;
      is_between = ap (λ (x : State). with_state x s) (plain_state s.state h.1);
      tall = leb-true s.rows 64 (and_parts (leb 1 s.rows) (leb s.rows 64) sides.0).1;
      wide = leb-true s.columns 128 (and_parts (leb 1 s.columns) (leb s.columns 128) sides.1).1;
    }

-- a size with a spot on it is usable
pub usable_since : (fit : Bool) (rows columns row column : ℕ) → (ltb row (cond fit rows 0) && ltb column (cond fit columns 0)) ≡ true → (fit ≡ true) × (row < rows) × (column < columns)
usable_since fit rows columns row column e =
    let h = and_parts (ltb row (cond fit rows 0)) (ltb column (cond fit columns 0)) e in
    on_usable fit rows columns row column (ltb-true row _ h.0) (ltb-true column _ h.1)

-- what is said is read between characters
pub read_plain : (f g : EcmaFace) (bytes : List ℕ) → Reads f bytes g → is_usable (screen_of f.emulator) ≡ true → screen_of g.emulator ≡ read_bytes (plain (screen_of f.emulator)) bytes
read_plain f g bytes said fit = said ∙ ap (λ (s : Screen). read_bytes s bytes) (usable (screen_of f.emulator) fit).is_between

pub code_short : (c : Code) → length (code_bytes c) ≤ 15
code_short c = let short = c.short in simp length-take (omega arith)

-- a known cursor is on the grid
pub on_screen : (e : Emulator) → CursorOnGrid (screen_of e)
on_screen e at here = known_on (height e.grid) (width e.grid) e.cursor at here

-- a cursor that the terminal knows is the emulator's
pub cursor_known : (fit : Bool) (cursor : Option Spot) (at : Spot) → cond fit cursor None ≡ Some at → (fit ≡ true) × (cursor ≡ Some at)
cursor_known true cursor at e = (refl, e)
cursor_known false cursor at e = absurd (let z : ◌≡◌ {A = ℕ} 0 1 = cc in omega arith)

-- the cursor moved
pub moved : (s x : Screen) (row column : ℕ) → is_usable s ≡ true → x ≡ plain (with_cursor (Some (spot row column)) s) → shown_on x ≡ shown_in (perform text_layer text_glyph (over (shown_on s) 0 0 0) (Move row column))
moved s x row column fit e =
    let still : is_usable (plain (with_cursor (Some (spot row column)) s)) ≡ true = and_from _ _ (usable s fit).size refl in
    rw e (rw (still, fit))

-- cells put at the cursor
put : (s x : Screen) (a : ℕ) (at : Spot) (new : List TextCell) → is_usable s ≡ true → s.cursor ≡ Some at → at.column + length new ≤ s.columns → x ≡ put_here (plain (with_pen a s)) (Some at) new → shown_on x ≡ shown_in (put_cells text_layer text_glyph (over (shown_on s) 0 0 0) new)
put s x a at new fit here inside e =
    let size : (is_size s.rows s.columns && true) ≡ true = and_from _ _ (usable s fit).size refl in
    let fits = le-leb (at.column + length new) s.columns inside in
    rw e (rw (fits, fit, here) (rw size))

-- the cells of a character that was said, where the terminal knows its cursor
module _ (f g : EcmaFace) (at : Spot) (new : List TextCell) (c a : ℕ) (here : (shown_by f).cursor ≡ Some at) where
  abbrev s : Screen
  s = screen_of f.emulator

  pub spoken : Reads f (put_bytes f.emulator.pen c a) g → ReadsAsCharacter f.emulator.pen c a (put_bytes f.emulator.pen c a) → are_attributes a ≡ true → Drawn c → at.column + length new ≤ s.columns → ((x : Screen) → shows x (make c a) ≡ put_here x x.cursor new) → shown_by g ≡ shown_in (put_cells text_layer text_glyph (over (shown_by f) 0 0 0) new)
  spoken said reads fit drawn inside makes =
      let known = cursor_known (is_usable s) s.cursor at here in
      let screen : screen_of g.emulator ≡ put_here (plain (with_pen a s)) (Some at) new =
      read_plain f g (put_bytes f.emulator.pen c a) said known.0 ∙ reads s refl fit drawn.from drawn.to drawn.scalar ∙ makes (plain (with_pen a s)) ∙ ap (λ (o : Option Spot). put_here (plain (with_pen a s)) o new) known.1 in
      put s (screen_of g.emulator) a at new known.0 known.1 inside screen

-- the meaning of an emulator's screen is sound, whether it is usable or not
pub screen_sound : (e : Emulator) → Sound (over (shown_on (screen_of e)) 0 15 0)
screen_sound e = by_use (is_usable (screen_of e))
  where
    over_it : Sound (over_grid (fitting e.grid) e.grid e.cursor 0 15 0)
    over_it = sound_over (fitting e.grid) e.grid e.cursor 0 15 0 (λ h. h) (omega arith)

    by_use : (fit : Bool) → Sound {C = TextCell} record { rows = cond fit (screen_of e).rows 0; columns = cond fit (screen_of e).columns 0; grid = cond fit (screen_of e).grid []; cursor = cond fit (screen_of e).cursor None; room = 0; need = 15; tally = 0 }
    by_use true = over_it
    by_use false = record {
      tall = refl;
      wide = λ row h. absurd (omega arith);
      cursor_row = λ at h. absurd (let z : ◌≡◌ {A = ℕ} 0 1 = cc in omega arith);
      cursor_column = λ at h. absurd (let z : ◌≡◌ {A = ℕ} 0 1 = cc in omega arith);
      small_need = omega arith;
    }
