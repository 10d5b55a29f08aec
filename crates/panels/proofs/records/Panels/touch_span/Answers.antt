use Rattle.std.proofs.Common.{◌<◌, ◌||◌, length, take, get_or, refl, sym, ap, ◌∙◌}
use Rattle.std.specs.Option.{option_copied}
use Rattle.std.proofs.lemmas.List.Folds.{list_any_more}
use Rattle.areas.specs.Addresses.{in_span}
use Rattle.touching.specs.TouchedRows.{Touching}
use Rattle.touching.proofs.TouchingLaws.{touching_none, touching_then, touching_like}
use Rattle.panels.specs.Places.{shows}
use Rattle.panels.specs.Decks.{deck_of, panel_in, panel_of, any}
use Rattle.panels.proofs.records.Panels.touch_span.Goals as goal
use Rattle.panels.proofs.records.Panels.touch_span.Goals.{in-Some, in_default}

pub loop-number-init : goal.loop-number-init
loop-number-init c = touching_none c.args.touched.now _ (λ r x h. refl)

pub loop-number-preserved : goal.loop-number-preserved
loop-number-preserved c =
    let d = deck_of c.args.self.now in
    let place = c.loop-number.number-index in
    let number = get_or c.numbers-number-items.result.now place 0 in
    let within : place < length d.order = rw (sym c.numbers-number-items.ensures) c.loop-number-test.true in
    let one : Touching c.loop-number.touched c.match-small.touched (shows (in_span c.args.from c.args.count) (panel_of d number)) =
    elim c.match-small.branch [
      | in-Some w ↦ rw (w.touched-is, sym c.small.ensures ∙ ap (λ small. panel_in (option_copied small)) w.in-Some.is) w.touch.ensures
      | in_default w ↦ rw w.touched-is (touching_none c.loop-number.touched _ (λ r x h. ap (λ p. shows (in_span c.args.from c.args.count) p r x) (sym c.small.ensures ∙ ap (λ small. panel_in (option_copied small)) w.in_default.is)))
    ] in
    touching_like c.args.touched.now c.match-small.touched _ _
    (λ r x h b. ap (λ n. any (λ m. shows (in_span c.args.from c.args.count) (panel_of d m) r x) (take place d.order) || shows (in_span c.args.from c.args.count) (panel_of d n) r x) (ap (λ xs. get_or xs place 0) c.numbers-number-items.ensures)
    ∙ sym (list_any_more (λ m. shows (in_span c.args.from c.args.count) (panel_of d m) r x) d.order place 0 within))
    (touching_then c.args.touched.now c.loop-number.touched c.match-small.touched _ _ c.loop-number.invariant one)
