use Rattle.std.proofs.Common.{arith}
use Rattle.grids.proofs.CellsPut.{one_write, two_writes}
use Rattle.grids.proofs.putting.write_cells.Goals as goal

pub returns-in-Some : goal.returns-in-Some
returns-in-Some g c =
    rw c.in-Some.is (two_writes c.args.row.now c.args.from c.args.new.0 c.in-Some.second (omega (arith, rw c.in-Some.is at c.requires)))

pub returns-in_default : goal.returns-in_default
returns-in_default g c =
    rw c.in_default.is (one_write c.args.row.now c.args.from c.args.new.0 (omega (arith, rw c.in_default.is at c.requires)))
