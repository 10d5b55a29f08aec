use Rattle.cell_memory.proofs.Filling.{one_put, none_put}
use Rattle.cell_memory.proofs.put.Goals as goal

pub returns-then-address-memory : goal.returns-then-address-memory
returns-then-address-memory g c = one_put g.C.LayerCell.layer c.args.memory.now c.args.address c.args.cell c.if-address-memory.true

pub returns-else-address-memory : goal.returns-else-address-memory
returns-else-address-memory g c = none_put g.C.LayerCell.layer c.args.memory.now c.args.address c.args.cell c.if-address-memory.false
