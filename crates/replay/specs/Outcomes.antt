-- How what a terminal tells of itself is printed.
use Rattle.std.specs.Prelude.{ℕ, List, ◌++◌, codes}
use Rattle.std.specs.Fmt.{decimal}
use Rattle.pick_list.specs.Cursors.{cursor_text}
use Rattle.pick_list.specs.declared.Cursor.{Cursor}
use Rattle.replay.specs.declared.inspection.Outcome.{Outcome}

abbrev told : ℕ → Cursor → ℕ → List ℕ
told tally cursor room = codes "tally " ++ (decimal tally ++ (codes " " ++ (cursor_text cursor ++ (codes " room " ++ decimal room))))

-- the tally, where the cursor is, and the room of the line
abbrev pub outcome_text : Outcome → List ℕ
outcome_text o = told o.tally o.cursor o.room
