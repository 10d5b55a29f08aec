use Rattle.std.proofs.Common.{◌≡◌, ℕ, ◌*◌, Bool, List, length, refl, arith}
use Rattle.std.proofs.lemmas.List.{length-take-le}
use Rattle.cells.specs.Kinds.{Layer, Glyph}
use Rattle.areas.specs.Addresses.{in_span, in_area, row_part, address}
use Rattle.areas.specs.Memories.{by_address}
use Rattle.cell_memory.specs.Writing.{filled, written}
use Rattle.windows.specs.Cells.{scrolled, edged, on_edge}
use Rattle.windows.specs.Tables.{area_of, with_window}
use Rattle.panels.specs.Decks.{panel_of, hit}
use Rattle.screen.specs.States.{state_of, with_table, touched_at}
use Rattle.screen.specs.declared.records.Screen.{Screen}
use Rattle.touch_law.specs.Law.{OnlyTouched, PanelCallsTouch, WindowCallsTouch}
use Rattle.touch_law.proofs.Raw.{raw_kept, raw_unhit}
use Rattle.touch_law.proofs.Outside.{only_from, only_same, only_shown, only_hidden, only_raised, only_lowered, only_given, only_relocated}
use Rattle.touch_law.proofs.Unwritten.{Kept, window_ends, past_unshown, written_kept, filled_kept, span_kept, scrolled_kept, edged_kept}
use Rattle.touch_law.proofs.is_touched.Goals as goal

module _ {C : Type 0} (l : Layer C) (g : Glyph C) (screen : Screen) (memory : List C) where
  long : length (state_of screen).ranges ≡ (state_of screen).rows
  long = let t = screen.board.touched in length-take-le t.size.rows t.ranges (omega (arith, t.tall, t.long))

  panels_touch : PanelCallsTouch l g (state_of screen) memory
  panels_touch = record {
    show = only_shown l g (state_of screen) memory long;
    hide = only_hidden l g (state_of screen) memory long;
    raise = only_raised l g (state_of screen) memory long;
    lower = only_lowered l g (state_of screen) memory long;
    relocate = only_relocated l g (state_of screen) memory long;
    panel = λ number window view at hidden. only_given l g (state_of screen) memory long number _ hidden;
  }

  -- cells were written at addresses, and the spots that show them are touched
  writes : (at : ℕ → Bool) (after : List C) → Kept l memory at after → OnlyTouched l g (state_of screen) memory (touched_at (state_of screen) (hit (state_of screen).deck at)) after
  writes at after kept =
      only_from l g (state_of screen) memory long (state_of screen).deck after (hit (state_of screen).deck at) (λ r x f. raw_unhit l memory after at (state_of screen).deck r x kept f)

  windows_touch : WindowCallsTouch l g (state_of screen) memory
  windows_touch =
      let table = (state_of screen).table in
      let w = screen.board.windows in
      record {
        window = λ z. only_same l g (state_of screen) memory long (with_table (state_of screen) (with_window table z)) (by_address memory (filled l memory table.taken (z.rows * z.columns) l.blank)) refl
            (λ r x. raw_kept l memory (by_address memory (filled l memory table.taken (z.rows * z.columns) l.blank)) (in_span table.taken (z.rows * z.columns)) (span_kept l memory table.taken (z.rows * z.columns) l.blank) (state_of screen).deck r x (λ n _. past_unshown table.taken (z.rows * z.columns) (panel_of (state_of screen).deck n) r x (screen.seen n)));
        write = λ window at cells. writes (in_area (row_part (area_of table window) at.row at.column (length cells))) (by_address memory (written l memory (address (area_of table window) at.row at.column) cells)) (written_kept l memory (area_of table window) at.row at.column cells);
        punch = λ window at count. writes (in_area (row_part (area_of table window) at.row at.column count)) (by_address memory (filled l memory (address (area_of table window) at.row at.column) count l.punched)) (filled_kept l memory (area_of table window) at.row at.column count l.punched);
        scroll = λ window t. writes (in_area (area_of table window)) (by_address memory (scrolled l memory (area_of table window))) (scrolled_kept l memory (area_of table window) (window_ends w window t).tall);
        box = λ window attributes t. writes (on_edge (area_of table window)) (by_address memory (edged l g memory (area_of table window) attributes)) (edged_kept l memory g (area_of table window) attributes (window_ends w window t).wide);
      }

pub returns-clause-panel_calls : goal.returns-clause-panel_calls
returns-clause-panel_calls g c = panels_touch g.C.LayerCell.layer g.C.TerminalCell.glyph c.args.screen.now c.args._memory.now

pub returns-clause-window_calls : goal.returns-clause-window_calls
returns-clause-window_calls g c = windows_touch g.C.LayerCell.layer g.C.TerminalCell.glyph c.args.screen.now c.args._memory.now

pub returns-in_err-range-clause-panel_calls : goal.returns-in_err-range-clause-panel_calls
returns-in_err-range-clause-panel_calls g c = panels_touch g.C.LayerCell.layer g.C.TerminalCell.glyph c.args.screen.now c.args._memory.now

pub returns-in_err-range-clause-window_calls : goal.returns-in_err-range-clause-window_calls
returns-in_err-range-clause-window_calls g c = windows_touch g.C.LayerCell.layer g.C.TerminalCell.glyph c.args.screen.now c.args._memory.now
