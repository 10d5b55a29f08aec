use Rattle.std.proofs.Common.{◌≡◌, true, Some, sym, ap, ◌∙◌}
use Rattle.std.proofs.lemmas.List.{map-set}
use Rattle.panels.specs.Places.{is_small}
use Rattle.panels.specs.Decks.{deck_of, panel_in}
use Rattle.panels.proofs.records.Panels.give.Goals as goal

pub returns-then-is_small : goal.returns-then-is_small
returns-then-is_small c =
    let d = deck_of c.args.self.now in
    let small : is_small (Some c.args.panel) ≡ true = sym c.is_small.ensures ∙ c.if-is_small.true in
    rw small (ap (λ given. record { given = given; order = d.order }) (map-set panel_in c.args.self.now.given c.args.number _))
