-- How refusals are printed.
use Rattle.std.specs.Prelude.{ℕ, List, ◌++◌, codes}
use Rattle.std.specs.Fmt.{decimal}
use Rattle.faults.specs.declared.Fault.{Fault}
use Rattle.faults.specs.declared.FaultLayer.{FaultLayer}
use Rattle.faults.specs.declared.FaultLayer.TheVariants.{Screen, Terminal}
use Rattle.faults.specs.Faults.{number_of, layer_of}

-- the part of the library that refuses
abbrev pub layer_word : FaultLayer → List ℕ
layer_word Screen = codes "screen"
layer_word Terminal = codes "terminal"

-- a refusal's number, then the part of the library
abbrev pub refusal_text : Fault → List ℕ
refusal_text f = codes "refused " ++ (decimal (number_of f) ++ (codes " " ++ layer_word (layer_of f)))
