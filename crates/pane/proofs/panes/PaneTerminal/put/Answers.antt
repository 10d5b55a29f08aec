use Rattle.std.proofs.Common.{◌+◌, ◌-◌, ◌≤◌, [], ◌∷◌, is_some, sym, refl, ap, ◌∙◌, arith}
use Rattle.pane_parts.proofs.Operating.{seen, pane_effect}
use Rattle.pane.proofs.panes.PaneTerminal.put.Goals as goal

pub returns-clause-effect : goal.returns-clause-effect
returns-clause-effect g c =
    let m = g.T.Terminal.meaning c.args.self.now.below.now in
    let area = c.args.self.now.area in
    let spot = c.in_ok-spot_of_single.ensures.told in
    let k = seen area _ m.cursor (ap is_some (sym c.seen_cursor.ensures.told ∙ spot.cursor_known)) in
    let narrow : k.at.column - area.left + 1 ≤ area.width = omega (arith, k.column_from, k.column_to) in
    pane_effect m area k _ _ _ (c.args.cell ∷ []) (λ x. refl) c.seen_cursor.ensures.sound narrow _ c.put.result c.put.ensures.effect
