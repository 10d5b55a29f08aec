use Rattle.std.proofs.Common.{replicate, None, ap, ◌∙◌, arith}
use Rattle.std.proofs.lemmas.List.{take-replicate}
use Rattle.touching.proofs.KeptRanges.{none_fits}
use Rattle.touching.proofs.records.Touched.new.Goals as goal

pub invariant_of-result-clause-fit : goal.invariant_of-result-clause-fit
invariant_of-result-clause-fit c = λ row. none_fits c.min-2.result 64 row

pub returns-clause-ranges : goal.returns-clause-ranges
returns-clause-ranges c = take-replicate c.min.result 64 None (omega (arith, c.min.ensures)) ∙ ap (λ n. replicate n None) c.min.ensures
