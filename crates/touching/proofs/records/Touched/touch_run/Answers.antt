use Rattle.std.proofs.Common.{take, set, refl, ap, ◌∙◌, arith}
use Rattle.std.proofs.lemmas.List.{length-set}
use Rattle.cells.specs.Widths.{within}
use Rattle.ranges.proofs.Touches.{touched_fits}
use Rattle.touching.proofs.KeptRanges.{set-fits, kept_touch, kept_past}
use Rattle.touching.proofs.records.Touched.touch_run.Goals as goal

pub touched-requires : goal.touched-requires
touched-requires c = c.args.self.now.fit c.args.row

pub invariant_of-self : goal.invariant_of-self
invariant_of-self c =
    let t = c.args.self.now in
    record { long = length-set t.ranges c.args.row c.touched.result ∙ t.long; tall = t.tall; wide = t.wide; fit = set-fits t.size.columns t.ranges c.args.row c.touched.result t.fit (rw c.touched.ensures (touched_fits t.size.columns _ (within c.args.first c.args.last))) }

pub returns-then-row-self : goal.returns-then-row-self
returns-then-row-self c =
    let t = c.args.self.now in
    record {
      size = refl;
      ranges = ap (λ x. take t.size.rows (set t.ranges c.args.row x)) c.touched.ensures ∙ kept_touch t.size.columns t.size.rows t.ranges c.args.row (within c.args.first c.args.last) t.fit (omega (arith, t.tall, t.long)) c.if-row-self.true;
    }

pub returns-else-row-self : goal.returns-else-row-self
returns-else-row-self c =
    let t = c.args.self.now in
    record {
      size = refl;
      ranges = kept_past t.size.columns t.size.rows t.ranges c.args.row (within c.args.first c.args.last) t.fit c.if-row-self.false;
    }
