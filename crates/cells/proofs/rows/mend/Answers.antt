use Rattle.std.proofs.Common.{◌≡◌, ◌+◌, refl, arith}
use Rattle.std.specs.List.{slice_get}
use Rattle.std.proofs.lemmas.Option.{slice_get_read, gets}
use Rattle.std.proofs.lemmas.Grind.{common_steps}
use Rattle.cells.specs.Rows.{mended}
use Rattle.cells.proofs.Places.{over_all}
use Rattle.cells.proofs.Mending.{length-mended, slice_get-mended, settles, mend_more}
use Rattle.cells.proofs.rows.mend.Goals as goal

pub loop-column-preserved : goal.loop-column-preserved
loop-column-preserved g c =
    let next : c.copied-after.result ≡ slice_get c.loop-column.row (c.loop-column.column + 1) = grind (arith, common_steps, gets) in
    let read = slice_get_read c.loop-column.row _ c.loop-column.column c.index-row-column.result refl (omega arith) c.index-row-column.is in
    mend_more _ _ _ _ _ _ _ _ _ c.loop-column.invariant.0 c.loop-column.invariant.1 read next c.mended_cell.ensures

pub returns : goal.returns
returns g c =
    let l = g.C.LayerCell.layer in
    let t = g.C.TerminalCell.glyph in
    let raw = c.args.row.now in
    let all = over_all (mended l t raw) raw _ _ (length-mended l t raw) c.loop-column.invariant.0 c.loop-column-test.false in
    record { mended = all; by_column = rw all (slice_get-mended l t raw); whole = rw all (settles l t raw) }
