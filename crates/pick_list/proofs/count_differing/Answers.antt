use Rattle.std.proofs.Common.{rules, tests}
use Rattle.pick_list.proofs.Columns.{counted}
use Rattle.pick_list.proofs.count_differing.Goals as goal

pub returns : goal.returns
returns g c =
    counted _ (record { equal = λ f x q k. search (rules, tests); other = λ f x q k e. search (rules, tests) }) c.filter.result _ _ _ c.count.ensures.ran (cc) (cc (c.zip.ensures.second.0))
