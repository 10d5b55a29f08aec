-- Cells written one after another.
use Rattle.std.proofs.Common.{◌≡◌, ℕ, ◌+◌, ◌-◌, ◌^◌, ◌<◌, ◌≤◌, min, List, [], ◌∷◌, ◌++◌, length, ap, ◌∙◌, arith}
use Rattle.std.proofs.lemmas.List.{length-append}
use Rattle.std.proofs.lemmas.Grind.{common_steps}
use Rattle.std.proofs.lemmas.Bool.Decides.{nat_tests}
use Rattle.cells.specs.Kinds.{Layer}
use Rattle.cells.specs.declared.kinds.Made.{Made}
use Rattle.areas.specs.Memories.{by_address}
use Rattle.areas.proofs.MemoryLaws.{by_address_like, by_address_twice, get_or-by_address}
use Rattle.cell_memory.specs.Texts.{cells_in}
use Rattle.cell_memory.specs.Writing.{filled, written}

-- a character makes two cells at most
pub two_at_most : {C : Type 0} (m : Made C) → length (cells_in m) ≤ 2
two_at_most m = grind arith

-- one cell is a fill of one
pub one_written : {C : Type 0} (l : Layer C) (memory : List C) (from : ℕ) (c : C) → by_address memory (filled l memory from 1 c) ≡ by_address memory (written l memory from (c ∷ []))
one_written l memory from c = by_address_like memory _ _ (λ x h. grind (arith, nat_tests, common_steps))

module _ {C : Type 0} (l : Layer C) (memory : List C) where
  more_at : (from at : ℕ) (cells new : List C) (x : ℕ) → x < length memory → (x < 2 ^ 64 - 1) → at ≡ min (from + length cells) (2 ^ 64 - 1) → written l (by_address memory (written l memory from cells)) at new x ≡ written l memory from (cells ++ new) x
  more_at from at cells new x h small e =
      let long = length-append cells new in
      let old = get_or-by_address memory (written l memory from cells) x l.blank h in
      grind (arith, nat_tests, common_steps, old)

  -- more cells right after those that are written
  pub written_more : (from at : ℕ) (cells new : List C) → length memory < 2 ^ 64 → at ≡ min (from + length cells) (2 ^ 64 - 1) → by_address (by_address memory (written l memory from cells)) (written l (by_address memory (written l memory from cells)) at new) ≡ by_address memory (written l memory from (cells ++ new))
  written_more from at cells new short e =
      by_address_twice memory (written l memory from cells) _ ∙ by_address_like memory _ _ (λ x h. more_at from at cells new x h (omega arith) e)

  -- two cells are two fills
  pub two_written : (from at : ℕ) (c d : C) (one two : List C) → length memory < 2 ^ 64 → at ≡ min (from + 1) (2 ^ 64 - 1) → one ≡ by_address memory (filled l memory from 1 c) → two ≡ by_address one (filled l one at 1 d) → two ≡ by_address memory (written l memory from (c ∷ d ∷ []))
  two_written from at c d one two short e first second =
      let was : one ≡ by_address memory (written l memory from (c ∷ [])) = first ∙ one_written l memory from c in
      second ∙ ap (λ (m : List C). by_address m (filled l m at 1 d)) was
      ∙ one_written l (by_address memory (written l memory from (c ∷ []))) at d
      ∙ written_more from at (c ∷ []) (d ∷ []) short e
