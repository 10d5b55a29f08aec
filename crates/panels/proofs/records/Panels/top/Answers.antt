use Rattle.std.proofs.Common.{ℕ, Bool, ap, ◌∙◌, rules}
use borrow.Author.Tests.{tests}
use Rattle.std.proofs.lemmas.Iterator.Search.{find_from_yields_List}
use Rattle.std.proofs.lemmas.Iterator.Adapters.{YieldsList-from_rev_slice}
use Rattle.orders.specs.Kept.{order_of}
use Rattle.panels.specs.Decks.{deck_of, panel_of}
use Rattle.panels.specs.Pictures.{is_seen}
use Rattle.panels.proofs.Tops.{topmost_found}
use Rattle.panels.proofs.records.Panels.top.Goals as goal

pub returns : goal.returns
returns g c =
    let order = order_of c.args.self.now.order in
    let seen : ℕ → Bool = λ n. is_seen g.C.LayerCell.layer c.args.memory.now (panel_of (deck_of c.args.self.now) n) c.args.at.row c.args.at.column in
    let found = find_from_yields_List seen _ _ c.find.result c.find.ensures.ran (YieldsList-from_rev_slice order (ap (λ it. it.rest.now) c.rev.ensures.source ∙ c.iter.ensures.rest ∙ c.numbers.ensures)) (λ x b q k. search (rules, tests)) in
    c.copied.ensures ∙ found ∙ topmost_found seen order
