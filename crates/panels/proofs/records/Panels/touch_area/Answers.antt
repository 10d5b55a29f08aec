use Rattle.std.proofs.Common.{◌+◌, Bool, ◌||◌, sym, ap, ◌∙◌}
use Rattle.touching.proofs.TouchingLaws.{touching_none, touching_then, touching_like}
use Rattle.areas.specs.Addresses.{in_span, in_rows}
use Rattle.areas.proofs.AddressLaws.{no_row, rows_push}
use Rattle.panels.specs.Decks.{deck_of}
use Rattle.panels.proofs.Hits.{hit_none, hit_or, hit_small, span_saturated}
use Rattle.panels.proofs.records.Panels.touch_area.Goals as goal

pub loop-row-init : goal.loop-row-init
loop-row-init c =
    let a = c.args.area in
    touching_none c.args.touched.now _ (λ r x h. hit_none (deck_of c.args.self.now) (in_rows a.base a.pitch 0 a.width) r x (λ y. no_row a.base a.pitch a.width y))

pub loop-row-preserved : goal.loop-row-preserved
loop-row-preserved c =
    let a = c.args.area in
    let d = deck_of c.args.self.now in
    let row = c.loop-row.row in
    touching_like c.args.touched.now c.touch_span.new.touched _ _
    (λ r x h b. sym (hit_or d (in_rows a.base a.pitch row a.width) (in_span c.saturating_add-start.result a.width) r x)
    ∙ hit_small c.args.self.now _ (in_rows a.base a.pitch (row + 1) a.width) r x
    (λ y k. ap (λ (t : Bool). in_rows a.base a.pitch row a.width y || t) (span_saturated a.base row a.pitch a.width c.saturating_mul.result c.saturating_add-start.result y k c.saturating_mul.ensures c.saturating_add-start.ensures) ∙ sym (rows_push a.base a.pitch row a.width y)))
    (touching_then c.args.touched.now c.loop-row.touched c.touch_span.new.touched _ _ c.loop-row.invariant c.touch_span.ensures)
