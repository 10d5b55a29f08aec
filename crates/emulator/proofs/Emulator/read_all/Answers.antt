use Rattle.std.proofs.Common.{arith}
use Rattle.std.proofs.lemmas.Grind.{common_steps}
use Rattle.emulator.proofs.Reading.{nothing_read}
use Rattle.emulator.proofs.Emulator.read_all.Goals as goal

pub returns-clause-garbage : goal.returns-clause-garbage
returns-clause-garbage c = nothing_read _ _ c.args.bytes.now (grind (arith, common_steps))
