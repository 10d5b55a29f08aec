use Rattle.std.proofs.Common.{◌≡◌, ℕ, map, length, ap, ◌∙◌, arith}
use Rattle.std.specs.List.{range_with_len}
use Rattle.areas.specs.Memories.{by_address}
use Rattle.cells.specs.Rows.{mended}
use Rattle.panels.specs.Pictures.{raw}
use Rattle.screen.specs.States.{state_of}
use Rattle.screen.proofs.records.Screen.compose.Goals as goal

pub returns-clause-composed : goal.returns-clause-composed
unfolding by_address
returns-clause-composed g c =
    let s = state_of c.args.self.now in
    let wide : length c.args.cells.now ≡ s.columns = omega (arith, c.columns.ensures.told) in
    c.mend.ensures.mended ∙ ap (mended g.C.LayerCell.layer g.C.TerminalCell.glyph) (c.compose.ensures ∙ ap (λ (n : ℕ). map (raw g.C.LayerCell.layer c.args.memory.now s.deck c.args.row) (range_with_len 0 n)) wide)
