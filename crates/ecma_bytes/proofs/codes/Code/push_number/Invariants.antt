-- The digits that are left complete the number; each took at most a byte.
use Rattle.std.proofs.Common.{◌≡◌, ◌+◌, ◌≤◌, ◌++◌, drop}
use Rattle.ecma_bytes.specs.Bytes.{digits_from, number}
use Rattle.ecma_bytes.specs.Codes.{code_bytes}
use Rattle.ecma_bytes.proofs.codes.Code.push_number.Given as goal

abbrev pub invariant-loop-least : goal.invariant-loop-least
invariant-loop-least l =
    (code_bytes l.self ++ digits_from (drop l.least-index l.least-items) l.n ≡ code_bytes l.initial.self ++ number l.n)
    × (l.self.length ≤ l.initial.self.length + l.least-index)
