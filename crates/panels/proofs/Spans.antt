-- What a panel shows of a span of addresses, row by row of its view.
use Rattle.std.proofs.Common.{◌≡◌, ℕ, ◌+◌, ◌-◌, ◌*◌, ◌^◌, ◌<◌, ◌≤◌, min, max, Bool, false, ◌&&◌, ◌||◌, Some, ap, inl, inr, arith}
use Rattle.std.proofs.lemmas.Bool.{cases_eq}
use Rattle.std.proofs.lemmas.Bool.Decides.{nat_tests}
use Rattle.areas.specs.Addresses.{in_span}
use Rattle.touching.specs.TouchedRows.{in_rectangle, in_run}
use Rattle.panels.specs.Places.{spot_address, shows_row}
use Rattle.panels.specs.declared.panel.Panel.{Panel}

-- in the first rows of the view
abbrev pub shows_rows : Panel → ℕ → ℕ → ℕ → ℕ → ℕ → Bool
shows_rows p from count rows r c = in_rectangle p.at.row p.at.column rows p.view.width r c && in_span from count (spot_address (Some p) r c)

pub rows_push : (p : Panel) (from count row r c : ℕ) → (shows_rows p from count row r c || shows_row p from count row r c) ≡ shows_rows p from count (row + 1) r c
rows_push p from count row r c = grind (arith, nat_tests)

module _ (p : Panel) (from count row r c start end low high : ℕ) (is-start : start ≡ p.view.base + row * p.view.pitch) (small : start + p.view.width ≤ 65535) (is-end : end ≡ min (from + count) (2 ^ 64 - 1)) (is-low : low ≡ max start from) (is-high : high ≡ min (start + p.view.width) end) where
  -- in the row itself the address is a sum
  in_row : r ≡ p.at.row + row → spot_address (Some p) r c ≡ start + (c - p.at.column)
  in_row e = let k : (r - p.at.row) * p.view.pitch ≡ row * p.view.pitch = ap (λ (n : ℕ). n * p.view.pitch) (omega arith) in omega arith

  pub row_some : low < high → in_run (p.at.row + row) (p.at.column + (low - start)) (p.at.column + (high - 1 - start)) r c ≡ shows_row p from count row r c
  row_some some =
      elim (cases_eq r (p.at.row + row)) [
        | inl e ↦ rw (in_row e) (grind (arith, nat_tests))
        | inr ne ↦ grind (arith, nat_tests)
      ]

  pub row_none : high ≤ low → shows_row p from count row r c ≡ false
  row_none none =
      elim (cases_eq r (p.at.row + row)) [
        | inl e ↦ rw (in_row e) (grind (arith, nat_tests))
        | inr ne ↦ grind (arith, nat_tests)
      ]
