-- The rows of an area moved up one after another.
use Rattle.std.proofs.Common.{◌≡◌, ℕ, zero, suc, ◌+◌, ◌-◌, ◌*◌, ◌<◌, ◌≤◌, true, cond, List, length, get_or, sym, ap, ◌∙◌, ap₂, suc-mul, arith}
use Rattle.std.proofs.lemmas.List.{get_or_default}
use Rattle.std.proofs.lemmas.Bool.{both_ways, cond-false}
use Rattle.std.proofs.lemmas.Grind.{common_steps}
use Rattle.std.proofs.lemmas.Bool.Decides.{nat_tests}
use Rattle.cells.specs.Kinds.{Layer}
use Rattle.areas.specs.Addresses.{in_rows}
use Rattle.areas.specs.Memories.{by_address}
use Rattle.areas.specs.declared.Area.{Area}
use Rattle.areas.proofs.AddressLaws.{rows_push, rows_below, no_row}
use Rattle.areas.proofs.MemoryLaws.{by_address_like, by_address_twice, by_address_same, get_or-by_address, length-by_address}
use Rattle.cell_memory.specs.Writing.{cell_at, shifted, filled}
use Rattle.windows.specs.Cells.{last_row, scrolled}

-- the first rows of an area have the cells of the next ones
abbrev pub moved_up : {C : Type 0} → Layer C → List C → Area → ℕ → ℕ → C
moved_up l memory a rows x = cond (in_rows a.base a.pitch rows a.width x) (cell_at l memory (x + a.pitch)) (cell_at l memory x)

-- addresses of the first rows lie below the next row
rows_end : (base pitch rows width x : ℕ) → width ≤ pitch → in_rows base pitch rows width x ≡ true → x < base + rows * pitch
rows_end base pitch zero width x apart t = absurd (both_ways (in_rows base pitch 0 width x) (no_row base pitch width x) t)
rows_end base pitch (suc rows) width x apart t =
    rows_below base pitch (suc rows) width x (base + suc rows * pitch) (let k : suc rows - 1 ≡ rows = omega arith in rw k (omega (arith, suc-mul rows pitch))) t

module _ {C : Type 0} (l : Layer C) (memory : List C) (a : Area) where
  pub none_moved : memory ≡ by_address memory (moved_up l memory a 0)
  none_moved =
      by_address_same memory (moved_up l memory a 0)
      (λ x d h. get_or_default memory x d l.blank h ∙ sym (cond-false _ (cell_at l memory (x + a.pitch)) (cell_at l memory x) (no_row a.base a.pitch a.width x)))

  -- a cell past the rows that were moved is as it was
  past_moved : (rows x : ℕ) → a.width ≤ a.pitch → a.base + rows * a.pitch ≤ x → get_or (by_address memory (moved_up l memory a rows)) x l.blank ≡ cell_at l memory x
  past_moved rows x apart h =
      let high = rows_end a.base a.pitch rows a.width x apart in
      let long = length-by_address memory (moved_up l memory a rows) in
      let old = get_or-by_address memory (moved_up l memory a rows) x l.blank in
      grind (arith, nat_tests, common_steps)

  step_at : (row x : ℕ) → a.width ≤ a.pitch → x < length memory → shifted l (by_address memory (moved_up l memory a row)) (a.base + row * a.pitch) a.pitch a.width x ≡ moved_up l memory a (row + 1) x
  step_at row x apart h =
      let past = past_moved row (x + a.pitch) apart in
      let old = get_or-by_address memory (moved_up l memory a row) x l.blank h in
      let more = rows_push a.base a.pitch row a.width x in
      grind (arith, nat_tests, common_steps)

  -- one row more
  pub moved_more : (row at : ℕ) (now : List C) → a.width ≤ a.pitch → at ≡ a.base + row * a.pitch → now ≡ by_address memory (moved_up l memory a row) → by_address now (shifted l now at a.pitch a.width) ≡ by_address memory (moved_up l memory a (row + 1))
  moved_more row at now apart place e =
      ap (λ (n : ℕ). by_address now (shifted l now n a.pitch a.width)) place
      ∙ ap (λ (m : List C). by_address m (shifted l m (a.base + row * a.pitch) a.pitch a.width)) e
      ∙ by_address_twice memory (moved_up l memory a row) _
      ∙ by_address_like memory _ (moved_up l memory a (row + 1)) (λ x h. step_at row x apart h)

  last_at : (x : ℕ) → a.width ≤ a.pitch → x < length memory → filled l (by_address memory (moved_up l memory a (a.height - 1))) (last_row a) a.width l.blank x ≡ scrolled l memory a x
  last_at x apart h =
      let high = rows_end a.base a.pitch (a.height - 1) a.width x apart in
      let old = get_or-by_address memory (moved_up l memory a (a.height - 1)) x l.blank h in
      grind (arith, nat_tests, common_steps)

  -- and the last row
  pub scrolled_all : (at : ℕ) (now : List C) (blank : C) → a.width ≤ a.pitch → at ≡ last_row a → blank ≡ l.blank → now ≡ by_address memory (moved_up l memory a (a.height - 1)) → by_address now (filled l now at a.width blank) ≡ by_address memory (scrolled l memory a)
  scrolled_all at now blank apart place is-blank e =
      ap₂ (λ (n : ℕ) (c : C). by_address now (filled l now n a.width c)) place is-blank
      ∙ ap (λ (m : List C). by_address m (filled l m (last_row a) a.width l.blank)) e
      ∙ by_address_twice memory (moved_up l memory a (a.height - 1)) _
      ∙ by_address_like memory _ (scrolled l memory a) (λ x h. last_at x apart h)
