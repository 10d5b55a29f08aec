-- Cells written over the front of a row of blanks.
use Rattle.std.proofs.Common.{◌≡◌, ℕ, ◌<◌, List, ◌++◌, length, get_or, take, replicate, sym, arith, length-append, length-take}
use Rattle.std.proofs.lemmas.List.{length-replicate}
use Rattle.std.proofs.lemmas.Bool.Decides.{nat_tests}
use Rattle.std.proofs.lemmas.Grind.{common_steps}
use Rattle.cells.specs.Kinds.{Layer}
use Rattle.areas.specs.Memories.{by_address}
use Rattle.areas.proofs.MemoryLaws.{memory_is, get_or-by_address, length-by_address}
use Rattle.cell_memory.specs.Writing.{filled, written}

module _ {C : Type 0} (l : Layer C) (old cells : List C) where
  abbrev blanks : List C
  blanks = by_address old (filled l old 0 (length old) l.blank)

  laid_at : (x : ℕ) (d : C) → x < length old → get_or (take (length old) (cells ++ replicate (length old) l.blank)) x d ≡ written l blanks 0 cells x
  laid_at x d h =
      let blank = get_or-by_address old (filled l old 0 (length old) l.blank) x l.blank h in
      grind (arith, nat_tests, common_steps, blank)

  pub laid_over : by_address blanks (written l blanks 0 cells) ≡ take (length old) (cells ++ replicate (length old) l.blank)
  laid_over =
      let long = length-by_address old (filled l old 0 (length old) l.blank) in
      sym (memory_is blanks _ _ (omega (arith, length-take (length old) (cells ++ replicate (length old) l.blank), length-append cells (replicate (length old) l.blank), length-replicate (length old) l.blank)) (λ x d h. laid_at x d (omega arith)))
