use Rattle.std.proofs.Common.{◌≡◌, ℕ, true, List, Some, None, Option, refl, rules, sym, ap, ◌∙◌}
use borrow.Author.Tests.{tests}
use Rattle.std.specs.Option.{MatchOption, unwrap_or}
use Rattle.cells.specs.Kinds.{Layer}
use Rattle.panels.specs.Decks.{Deck, deck_of, panel_of}
use Rattle.panels.specs.Pictures.{is_seen, seen_cell, top_of, raw}
use Rattle.panels.proofs.Tops.{topmost_holds}
use Rattle.panels.proofs.records.Panels.raw_cell.Goals as goal

module _ {C : Type 0} (l : Layer C) (memory : List C) (d : Deck) (r c : ℕ) where
  -- what the topmost panel shows, or the blank
  of_top : (top : Option ℕ) (cell : Option C) → top_of l memory d r c ≡ top → MatchOption top (cell ≡ None) (λ n. cell ≡ seen_cell l memory (panel_of d n) r c) → unwrap_or cell l.blank ≡ raw l memory d r c
  of_top None cell e none = rw (none, e) refl
  of_top (Some n) cell e some =
      let here : is_seen l memory (panel_of d n) r c ≡ true = topmost_holds (λ m. is_seen l memory (panel_of d m) r c) d.order n e in
      rw (some, here, e) refl

pub returns : goal.returns
returns g c =
    c.unwrap_or.ensures ∙ ap (unwrap_or c.and_then.result) c.blank.ensures ∙ of_top g.C.LayerCell.layer c.args.memory.now (deck_of c.args.self.now) c.args.at.row c.args.at.column c.top.result c.and_then.result (sym c.top.ensures) (search (rules, tests))
