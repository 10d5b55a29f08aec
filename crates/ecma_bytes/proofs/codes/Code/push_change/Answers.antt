use Rattle.std.proofs.Common.{rules}
use Rattle.ecma_bytes.proofs.Setting.{set_more}
use Rattle.ecma_bytes.proofs.codes.Code.push_change.Goals as goal

pub loop-bit-preserved : goal.loop-bit-preserved
loop-bit-preserved c =
    (set_more c.args.attributes _ _ _ _ _ c.loop-bit-test.true c.push_attribute.ensures.bytes c.loop-bit.invariant.0, search rules)
