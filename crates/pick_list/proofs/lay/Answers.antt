use Rattle.std.proofs.Common.{◌≡◌, ℕ, ◌+◌, List, ◌++◌, length, get_or, take, sym, refl, ap, ◌∙◌, arith, length-append}
use Rattle.std.proofs.lemmas.List.{take_all}
use Rattle.std.proofs.lemmas.Grind.{common_steps}
use Rattle.std.proofs.lemmas.Bool.Decides.{nat_tests}
use Rattle.areas.specs.Memories.{by_address}
use Rattle.areas.proofs.MemoryLaws.{none_written}
use Rattle.cell_memory.specs.Writing.{filled, written}
use Rattle.cell_memory.proofs.Texting.{two_at_most, written_more}
use Rattle.pick_list.specs.Laying.{cells_in, cells_for, cells_of, nothing_of}
use Rattle.pick_list.proofs.Overlay.{laid_over}
use Rattle.pick_list.proofs.lay.Goals as goal
use Rattle.pick_list.proofs.lay.Goals.{then-count-eq0, else-count-eq0}

pub loop-character-init : goal.loop-character-init
loop-character-init g c = (none_written c.fill.new.memory 0 0 _ g.C.LayerCell.layer.blank refl, refl, omega arith, refl, omega arith)

pub loop-character-preserved : goal.loop-character-preserved
loop-character-preserved g c =
    let l = g.C.LayerCell.layer in
    let t = g.C.TerminalCell.glyph in
    let row = c.fill.new.memory in
    let text = c.args.text.now in
    let i = c.loop-character.character-index in
    let item = c.character-item.result in
    let inv = c.loop-character.invariant in
    let h = c.loop-character-test.true in
    let new : List g.row.C.Denot = cells_in c.make.result in
    let cells : List g.row.C.Denot = cells_of t (take i text) in
    let here : new ≡ cells_for t (get_or text i item) = ap cells_in (c.make.ensures ∙ ap (λ (x : ℕ). t.make x 0) (c.from.ensures ∙ c.character-item.is)) in
    let more : cells_of t (take (i + 1) text) ≡ cells ++ new = grind (arith, common_steps) in
    let counted = c.put_made-count.ensures.count in
    let nothing : c.if-count-eq0.dropped ≡ nothing_of t (take (i + 1) text) = grind (arith, common_steps, nat_tests) in (
      c.put_made-count.ensures.after ∙ ap (λ m. by_address m (written l m c.loop-character.made new)) inv.0
          ∙ written_more l row 0 c.loop-character.made cells new (omega arith) (omega arith)
          ∙ ap (λ xs. by_address row (written l row 0 xs)) (sym more),
      omega (arith, ap length more, length-append cells new),
      omega (arith, two_at_most c.make.result),
      nothing,
      grind arith,
    )

pub returns-clause-after : goal.returns-clause-after
returns-clause-after g c =
    let l = g.C.LayerCell.layer in
    let cells = cells_of g.C.TerminalCell.glyph in
    let old = c.args.row.now in
    let text = c.args.text.now in
    let blank : c.fill.new.memory ≡ by_address old (filled l old 0 (length old) l.blank) =
    c.fill.ensures ∙ ap (λ (x : g.row.C.Denot). by_address old (filled l old 0 (length old) x)) c.blank.ensures in
    c.loop-character.invariant.0
    ∙ ap (λ (cs : List ℕ). by_address c.fill.new.memory (written l c.fill.new.memory 0 (cells cs))) (take_all _ text c.loop-character-test.false)
    ∙ ap (λ (row : List g.row.C.Denot). by_address row (written l row 0 (cells text))) blank
    ∙ laid_over l old (cells text)
