-- The digits that are left complete the change; each took at most two bytes with its semicolon.
use Rattle.std.proofs.Common.{◌≡◌, ◌+◌, ◌*◌, ◌≤◌, ◌++◌, drop}
use Rattle.ecma_bytes.specs.Bytes.{set_bytes, change_bytes}
use Rattle.ecma_bytes.specs.Codes.{code_bytes}
use Rattle.ecma_bytes.proofs.codes.Code.push_change.Given as goal

abbrev pub invariant-loop-bit : goal.invariant-loop-bit
invariant-loop-bit l =
    (code_bytes l.self ++ set_bytes l.attributes (drop l.bit-index l.bit-items) ≡ code_bytes l.fn.self ++ change_bytes l.attributes)
    × (l.self.length ≤ l.initial.self.length + 2 * l.bit-index)
