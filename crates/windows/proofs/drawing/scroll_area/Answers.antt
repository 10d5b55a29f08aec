use Rattle.std.proofs.Common.{◌≡◌, ◌-◌, ap, ◌∙◌, arith}
use Rattle.areas.specs.Memories.{by_address}
use Rattle.areas.proofs.AreaEnds.{ends_facts}
use Rattle.windows.proofs.Scrolling.{moved_up, none_moved, moved_more, scrolled_all}
use Rattle.windows.proofs.drawing.scroll_area.Goals as goal

pub loop-row-init : goal.loop-row-init
loop-row-init g c = none_moved g.C.LayerCell.layer c.args.memory.now c.args.whole.area

pub loop-row-preserved : goal.loop-row-preserved
loop-row-preserved g c =
    let e = ends_facts 65535 c.args.whole.area c.args.whole.inside in
    c.shift.ensures ∙ moved_more g.C.LayerCell.layer c.args.memory.now c.args.whole.area c.loop-row.row c.row.result c.loop-row.memory e.apart c.row.ensures c.loop-row.invariant

pub returns : goal.returns
returns g c =
    let l = g.C.LayerCell.layer in
    let memory = c.args.memory.now in
    let a = c.args.whole.area in
    let e = ends_facts 65535 a c.args.whole.inside in
    let all : c.loop-row.row ≡ a.height - 1 = omega arith in
    c.fill.ensures ∙ scrolled_all l memory a c.row-2.result c.loop-row.memory c.blank.result e.apart c.row-2.ensures c.blank.ensures (c.loop-row.invariant ∙ ap (λ n. by_address memory (moved_up l memory a n)) all)
