use Rattle.std.proofs.Common.{rules, arith, ◌≡◌, ◌<◌, ℕ, length, get_or, ◌∙◌, length-take, length-drop}
use Rattle.std.proofs.lemmas.Fn.{chained_keeps}
use Rattle.std.proofs.lemmas.Grind.{common_steps}
use Rattle.cell_memory.proofs.Filling.{filled_part}
use Rattle.cell_memory.proofs.fill.Goals as goal

-- each call of the closure gives the cell
pub returns : goal.returns
returns g c =
    filled_part g.C.LayerCell.layer c.args.memory.now c.fill_with.new.self c.args.from c.args.count c.saturating_add.result c.min-end.result c.min.result c.args.cell (omega arith) c.saturating_add.ensures c.min-end.ensures c.min.ensures
    (c.fill_with.ensures.len ∙ simp (length-take, length-drop) (omega arith))
    (chained_keeps _ (λ xs q. (q.0.now ≡ c.args.cell) × ((k : ℕ) (d : g.row.C.Denot) → k < length xs → get_or xs k d ≡ c.args.cell)) (λ xs q x v j s. (search rules, λ k d h. grind (arith, common_steps))) _ _ _ (search rules, λ k d h. absurd (omega arith)) c.fill_with.ensures.ran.1).1
