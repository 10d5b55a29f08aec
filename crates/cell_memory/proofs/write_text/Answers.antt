use Rattle.std.proofs.Common.{◌≡◌, ℕ, ◌+◌, ◌-◌, ◌^◌, min, List, ◌++◌, length, get_or, take, sym, refl, ap, ◌∙◌, arith}
use Rattle.std.proofs.lemmas.List.{length-append}
use Rattle.std.proofs.lemmas.Grind.{common_steps}
use Rattle.areas.specs.Memories.{by_address}
use Rattle.areas.proofs.MemoryLaws.{none_written}
use Rattle.cell_memory.specs.Texts.{cells_in, cells_for, cells_of}
use Rattle.cell_memory.specs.Writing.{written}
use Rattle.cell_memory.proofs.Texting.{two_at_most, written_more}
use Rattle.cell_memory.proofs.write_text.Goals as goal

pub loop-character-init : goal.loop-character-init
loop-character-init g c = (none_written c.args.memory.now c.args.from 0 _ g.C.LayerCell.layer.blank refl, refl, omega arith)

pub loop-character-preserved : goal.loop-character-preserved
loop-character-preserved g c =
    let l = g.C.LayerCell.layer in
    let t = g.C.TerminalCell.glyph in
    let memory = c.args.memory.now in
    let text = c.args.text.now in
    let a = c.args.attributes in
    let i = c.loop-character.character-index in
    let inv = c.loop-character.invariant in
    let new : List g.row.C.Denot = cells_in c.make.result in
    let cells : List g.row.C.Denot = cells_of t a (take i text) in
    let here : new ≡ cells_for t a (get_or text i 0) = ap cells_in c.make.ensures in
    let more : cells_of t a (take (i + 1) text) ≡ cells ++ new = grind (arith, common_steps) in
    let counted = c.put_made-count.ensures.count in (
      c.put_made-count.ensures.after ∙ ap (λ m. by_address m (written l m c.saturating_add.result new)) inv.0 ∙ written_more l memory c.args.from c.saturating_add.result cells new (omega arith) (c.saturating_add.ensures ∙ ap (λ (n : ℕ). min (c.args.from + n) (2 ^ 64 - 1)) inv.1) ∙ ap (λ xs. by_address memory (written l memory c.args.from xs)) (sym more),
      omega (arith, ap length more, length-append cells new),
      omega (arith, two_at_most c.make.result),
    )
