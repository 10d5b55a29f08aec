use Rattle.std.proofs.Common.{◌≡◌, suc, ◌-◌, ◌<◌, [], ◌∷◌, is_some, sym, refl, ap, ◌∙◌, arith}
use Rattle.terminal.specs.Operations.{column_of}
use Rattle.pane_parts.proofs.Operating.{seen, seen_at, columns_are, pair_refused, pane_effect}
use Rattle.pane.proofs.panes.PaneTerminal.put_pair.Goals as goal

pub returns : goal.returns
returns g c =
    let m = g.T.Terminal.meaning c.args.self.now.below.now in
    let area = c.args.self.now.area in
    let spot = c.in_ok-spot_of_pair.ensures.told in
    let found = sym c.seen_cursor.ensures.told ∙ spot.cursor_known in
    let k = seen area _ m.cursor (ap is_some found) in
    let column : k.at.column - area.left ≡ c.in_ok-spot_of_pair.field-0.column = ap column_of (sym (seen_at m area k) ∙ found) in
    let columns : c.size.result.columns ≡ area.width = c.size.ensures.columns ∙ columns_are m area k in
    let narrow : suc (k.at.column - area.left) < area.width = omega (arith, spot.inside) in
    let below = c.put_pair.ensures in
    record {
      refusal = below.refusal ∙ pair_refused m area k g.T.Cell.TerminalCell.glyph c.args.left c.args.right narrow;
      effect = pane_effect m area k _ _ _ (c.args.left ∷ c.args.right ∷ []) (λ x. refl) c.seen_cursor.ensures.sound (omega arith) _ c.put_pair.result below.effect;
      below = below.effect;
      same = record { area = refl; held = refl };
    }
