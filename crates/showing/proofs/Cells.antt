-- The first operation of a row's cells.
use Rattle.std.proofs.Common.{◌≡◌, ◌-◌, ◌<◌, ◌≤◌, true, false, List, [], ◌∷◌, length, get_or, take, drop, refl, sym, ap, ◌∙◌, arith}
use Rattle.std.proofs.lemmas.List.{take_all}
use Rattle.std.proofs.lemmas.Bool.{cond-true, cond-false}
use Rattle.cells.specs.Kinds.{Glyph}
use Rattle.terminal.specs.Operations.{Put, PutPair}
use Rattle.showing.specs.RowOperations.{cell_operations}

-- what stands behind the first cell
abbrev pub behind : {C : Type 0} → List C → List C
behind cells = take (length cells - 1) (drop 1 cells)

-- a slice's first cell, as it is read
pub record First {C : Type 0} (cells : List C) (c : C) : Type 0 where
  pub some : 1 ≤ length cells
  pub is : c ≡ get_or cells 0 c

module _ {C : Type 0} where
  first_is : (cells : List C) (c : C) → First cells c → cells ≡ c ∷ behind cells
  first_is [] c first = absurd (omega (arith, first.some))
  first_is (x ∷ cells) c first = rw (first.is, take_all (length (x ∷ cells) - 1) cells (omega arith))

  both_are : (cells : List C) (c d : C) → First cells c → First (behind cells) d → cells ≡ c ∷ d ∷ behind (behind cells)
  both_are cells c d first next = first_is cells c first ∙ ap (λ (xs : List C). c ∷ xs) (first_is (behind cells) d next)

  -- two cells that belong together
  pub pair_next : (g : Glyph C) (cells : List C) (c d : C) → First cells c → First (behind cells) d → g.belong c d ≡ true → cell_operations g cells ≡ PutPair c d ∷ cell_operations g (behind (behind cells))
  pair_next g cells c d first next b = ap (cell_operations g) (both_are cells c d first next) ∙ cond-true _ _ _ b

  -- a cell that does not belong with the next
  pub single_next : (g : Glyph C) (cells : List C) (c d : C) → First cells c → First (behind cells) d → g.belong c d ≡ false → cell_operations g cells ≡ Put c ∷ cell_operations g (behind cells)
  single_next g cells c d first next b =
      ap (cell_operations g) (both_are cells c d first next) ∙ cond-false _ _ _ b
      ∙ ap (λ (xs : List C). Put c ∷ cell_operations g xs) (sym (first_is (behind cells) d next))

  -- the last cell
  last_with : (g : Glyph C) (after : List C) (c : C) → length after < 1 → cell_operations g (c ∷ after) ≡ Put c ∷ cell_operations g after
  last_with g [] c short = refl
  last_with g (d ∷ after) c short = absurd (omega arith)

  pub last_next : (g : Glyph C) (cells : List C) (c : C) → First cells c → length (behind cells) < 1 → cell_operations g cells ≡ Put c ∷ cell_operations g (behind cells)
  last_next g cells c first short = ap (cell_operations g) (first_is cells c first) ∙ last_with g (behind cells) c short
