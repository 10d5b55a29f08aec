-- A part of memory filled with one cell, or one cell put.
use Rattle.std.proofs.Common.{◌≡◌, ℕ, ◌+◌, ◌-◌, ◌^◌, ◌<◌, ◌≤◌, min, List, length, get_or, set, inl, inr, arith, length-append, length-take, length-drop}
use Rattle.std.proofs.lemmas.List.{get_or_default}
use Rattle.std.proofs.lemmas.Grind.{common_steps}
use Rattle.std.proofs.lemmas.Bool.{cases_lt}
use Rattle.std.proofs.lemmas.Bool.Decides.{nat_tests}
use borrow.Rule.Slice.PartMut.{put_mid}
use Rattle.cells.specs.Kinds.{Layer}
use Rattle.areas.specs.Memories.{by_address}
use Rattle.areas.proofs.MemoryLaws.{memory_is, by_address_same}
use Rattle.cell_memory.specs.Writing.{filled}

module _ {C : Type 0} (l : Layer C) (memory new : List C) (from count all end start : ℕ) (c : C) where
  -- a part that has one cell, within the memory and from the first of the addresses on
  pub filled_part : length memory < 2 ^ 64 → all ≡ min (from + count) (2 ^ 64 - 1) → end ≡ min all (length memory) → start ≡ min from end → length new ≡ end - start → ((k : ℕ) (d : C) → k < length new → get_or new k d ≡ c) → put_mid start (end - start) memory new ≡ by_address memory (filled l memory from count c)
  filled_part short a e s long same =
      memory_is memory (put_mid start (end - start) memory new) (filled l memory from count c) (simp (length-append, length-take, length-drop) (omega arith))
      (λ x d b. let blank = get_or_default memory x d l.blank b in elim (cases_lt x start) [
        | inl h ↦ grind (arith, nat_tests, common_steps)
        | inr h ↦ let one = same (x - start) d in elim (cases_lt x end) [ inl k ↦ grind (arith, nat_tests, common_steps) | inr k ↦ grind (arith, nat_tests, common_steps) ]
      ])

module _ {C : Type 0} (l : Layer C) (memory : List C) (address : ℕ) (c : C) where
  -- a cell within the memory
  pub one_put : address < length memory → set memory address c ≡ by_address memory (filled l memory address 1 c)
  one_put within =
      memory_is memory (set memory address c) (filled l memory address 1 c) (grind (arith, common_steps))
      (λ x d b. let blank = get_or_default memory x d l.blank b in grind (arith, nat_tests, common_steps))

  -- or past it
  pub none_put : length memory ≤ address → memory ≡ by_address memory (filled l memory address 1 c)
  none_put past = by_address_same memory (filled l memory address 1 c) (λ x d b. let blank = get_or_default memory x d l.blank b in grind (arith, nat_tests))
