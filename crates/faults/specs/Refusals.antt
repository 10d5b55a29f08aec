-- Refusals in their order: the first test that holds, and the refusal that an answer is.
use Rattle.std.specs.Prelude.{Bool, cond, List, [], ◌∷◌, Some, None, Ok, Err, Option, Result}
use Rattle.faults.specs.declared.Fault.{Fault}

-- the refusal of the first test that holds, none if none does
abbrev pub first : List (Bool × Fault) → Option Fault
first [] = None
first (t ∷ tests) = cond t.0 (Some t.1) (first tests)

-- the refusal that an answer is, none if it is accepted
abbrev pub fault_of : {T : Type 0} → Result T Fault → Option Fault
fault_of (Ok x) = None
fault_of (Err f) = Some f
