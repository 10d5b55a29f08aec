use Rattle.std.proofs.Common.{refl, ap, arith}
use Rattle.std.proofs.lemmas.Grind.{common_steps}
use Rattle.panels.specs.Decks.{Deck}
use Rattle.screen.proofs.records.Screen.reorder.Goals as goal

pub invariant_of-self : goal.invariant_of-self
invariant_of-self g c =
    let deck = c.requires.1.1 c.change.new.arg2 (record { shown = _; shows = refl; left = _; leaves = refl; met = c.change.ensures }) in
    record { seen = λ n. rw (ap (λ (d : Deck). d.given) deck) (c.args.self.now.seen n) }

pub returns-clause-effect : goal.returns-clause-effect
returns-clause-effect g c =
    let deck = c.requires.1.1 c.change.new.arg2 (record { shown = _; shows = refl; left = _; leaves = refl; met = c.change.ensures }) in
    grind (arith, common_steps)
