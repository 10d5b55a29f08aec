use Rattle.std.proofs.Common.{◌≡◌, [], ◌∷◌, refl, ap, inl, inr, arith}
use Rattle.areas.proofs.MemoryLaws.{none_written}
use Rattle.cell_memory.specs.Texts.{cells_in}
use Rattle.cell_memory.proofs.Texting.{two_written}
use Rattle.cell_memory.proofs.put_made.Goals as goal

pub returns-in-Nothing-clause-after : goal.returns-in-Nothing-clause-after
returns-in-Nothing-clause-after g c = rw c.in-Nothing.is (none_written c.args.memory.now c.args.address 0 _ g.C.LayerCell.layer.blank refl)

pub returns-in-Pair-clause-after : goal.returns-in-Pair-clause-after
returns-in-Pair-clause-after g c =
    let both : cells_in c.args.made ≡ c.in-Pair.left ∷ c.in-Pair.right ∷ [] = elim c.in-Pair.is [ inl e ↦ ap cells_in e | inr e ↦ ap cells_in e ] in
    rw both (two_written g.C.LayerCell.layer c.args.memory.now c.args.address c.saturating_add.result c.in-Pair.left c.in-Pair.right c.put-in-Pair.new.memory c.put-in-Pair-2.new.memory (omega arith) c.saturating_add.ensures c.put-in-Pair.ensures c.put-in-Pair-2.ensures)
