-- Cells moved to lower addresses, the lowest first: each is read before it is written over.
use Rattle.std.proofs.Common.{◌≡◌, ℕ, ◌+◌, ◌-◌, ◌^◌, ◌<◌, ◌≤◌, min, List, length, get_or, sym, ap, ◌∙◌, inl, inr, arith}
use Rattle.std.proofs.lemmas.List.{get_or_past}
use Rattle.std.proofs.lemmas.Bool.{cases_lt}
use Rattle.std.proofs.lemmas.Bool.Decides.{nat_tests}
use Rattle.cells.specs.Kinds.{Layer}
use Rattle.areas.specs.Memories.{by_address}
use Rattle.areas.proofs.MemoryLaws.{length-by_address, get_or-by_address}
use Rattle.cell_memory.specs.Writing.{shifted}

pub still_there : {C : Type 0} (l : Layer C) (memory : List C) (to distance at from : ℕ) → to ≤ at → length memory < 2 ^ 64 → from ≡ min (at + distance) (2 ^ 64 - 1) → get_or (by_address memory (shifted l memory to distance (at - to))) from l.blank ≡ get_or memory (at + distance) l.blank
still_there l memory to distance at from h long e =
    elim (cases_lt from (length memory)) [
      | inl b ↦
          let same : from ≡ at + distance = omega arith in
          get_or-by_address memory (shifted l memory to distance (at - to)) from l.blank b ∙ (let f : shifted l memory to distance (at - to) from ≡ get_or memory from l.blank = grind (arith, nat_tests) in f) ∙ ap (λ (x : ℕ). get_or memory x l.blank) same
      | inr b ↦
          get_or_past (by_address memory (shifted l memory to distance (at - to))) from l.blank (omega (arith, length-by_address memory (shifted l memory to distance (at - to))))
          ∙ sym (get_or_past memory (at + distance) l.blank (omega arith))
    ]
