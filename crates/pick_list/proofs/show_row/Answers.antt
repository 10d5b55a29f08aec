use Rattle.std.proofs.Common.{rules}
use Rattle.std.proofs.lemmas.Iterator.{text_from_collect, YieldsList-from_slice}
use Rattle.std.proofs.lemmas.Iterator.Consumers.{YieldsList-from_filter_map}
use Rattle.pick_list.proofs.Shown.{first_of, shown_first, shown_one_by_one}
use Rattle.pick_list.proofs.show_row.Goals as goal

pub returns : goal.returns
returns g c =
    rw (← shown_one_by_one g.C.TerminalCell.glyph g.C.Lettered.letter c.args.row.now)
    (text_from_collect _ c.collect.ensures.ran
    (YieldsList-from_filter_map _ (shown_first g.C.TerminalCell.glyph g.C.Lettered.letter) (YieldsList-from_slice c.args.row.now (cc)) c.filter_map.ensures.closure
    (λ x r q k. (search rules, first_of _ _ (search rules)))))
