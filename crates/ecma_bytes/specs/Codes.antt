-- The bytes that a code holds.
use Rattle.std.specs.Prelude.{ℕ, List, take}
use Rattle.ecma_bytes.specs.declared.codes.Code.{Code}

abbrev pub code_bytes : Code → List ℕ
code_bytes c = take c.length c.bytes
