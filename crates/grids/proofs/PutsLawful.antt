-- Every accepted put keeps the laws.
use Rattle.std.proofs.Common.{◌≡◌, ℕ, suc, ◌+◌, ◌<◌, ◌≤◌, Bool, true, false, cond, ltb, leb, ◌⊎◌, List, [], length, get_or, Some, None, Ok, Err, Result, sym, refl, ap, ◌∙◌, inl, inr, arith, MatchResult}
use Rattle.std.specs.List.{slice_get}
use Rattle.std.proofs.lemmas.List.{get_or-set_same, get_or-set_other}
use Rattle.std.proofs.lemmas.Option.{slice_get-get_or, slice_get_past}
use Rattle.std.proofs.lemmas.Bool.{cases_Bool, cases_eq, cases_lt, eqb-true, ltb-true, leb-true, not-false, and_parts, cond-true, cond-false}
use Rattle.std.proofs.lemmas.Bool.Decides.{nat_tests}
use Rattle.faults.specs.Refusals.{fault_of}
use Rattle.faults.specs.declared.Fault.{Fault}
use Rattle.cells.specs.Kinds.{Layer, Glyph, Lawful}
use Rattle.put_rule.specs.Putting.{put_at, put_row}
use Rattle.put_rule.specs.Grids.{rows_of, row_at, put_grid}
use Rattle.grids.specs.GridViews.{fitting, height, width, grid_rows, put_refusal, PutInto}
use Rattle.grids.specs.PutLaws.{PutLaws, Lawfully}
use Rattle.grids.specs.declared.grids.Grid.{Grid}
use Rattle.put_rule.proofs.PutRows.{length-put, get_or-put}
use Rattle.put_rule.proofs.GridRows.{length-rows, length-row}
use Rattle.put_rule.proofs.WholeRows.{put_whole}

none_cond : {X : Type 0} (b : Bool) (x : X) → None ≡ cond b (Some x) None → b ≡ false
none_cond false x e = refl
none_cond true x e = absurd (let z : ◌≡◌ {A = ℕ} 0 1 = cc in omega arith)

module _ {C : Type 0} (l : Layer C) (g : Glyph C) (laws : Lawful l g) (new : List C) where
  -- a cell that is neither put over nor next to what is put
  far : (row : List C) (from j : ℕ) → (suc j < from) ⊎ (from + length new < j) → slice_get (put_row l g row from new) j ≡ slice_get row j
  far row from j away =
      elim (cases_lt j (length row)) [
        | inl within ↦
            slice_get-get_or (put_row l g row from new) j l.blank (omega (arith, length-put l g row from new))
            ∙ ap Some (get_or-put l g row from new j l.blank within ∙ untouched)
            ∙ sym (slice_get-get_or row j l.blank within)
        | inr past ↦ slice_get_past (put_row l g row from new) j (omega (arith, length-put l g row from new)) ∙ sym (slice_get_past row j past)
      ]
    where
      untouched : put_at l g row from new j ≡ get_or row j l.blank
      untouched = elim away [ inl before ↦ grind (arith, nat_tests) | inr after ↦ grind (arith, nat_tests) ]

  put_laws : (grid : List (List C)) (row from : ℕ) → row < length grid → from + length new ≤ length (row_at grid row) → PutLaws l g grid (put_grid l g grid row from new) row from new
  put_laws grid row from h inside =
      let here : row_at (put_grid l g grid row from new) row ≡ put_row l g (row_at grid row) from new = get_or-set_same grid row _ [] h in
      record {
        whole = λ cells k old. elim (cases_eq k row) [
          | inl e ↦ rw (e, here) (put_whole l g laws (row_at grid row) new from inside cells (rw e at old))
          | inr ne ↦ rw (get_or-set_other grid row k (put_row l g (row_at grid row) from new) [] ne) old
        ];
        other_rows = λ k ne. get_or-set_other grid row k _ [] ne;
        beside = λ j away. ap (λ (xs : List C). slice_get xs j) here ∙ far (row_at grid row) from j away;
      }

  -- on a grid, where the put is accepted
  accepted : (t u : Grid C) (row column : ℕ) → None ≡ put_refusal (height t) (width t) row column (length new) → PutInto l g t u row column new → PutLaws l g (grid_rows t) (grid_rows u) row column new
  accepted t u row column e into =
      let on : (ltb row (height t) ≡ true) × (leb (column + length new) (width t) ≡ true) = and_parts _ _ (not-false _ (none_cond _ _ e)) in
      elim (cases_Bool (fitting t)) [
        | inl fit ↦
            let grid : grid_rows t ≡ rows_of t.size.rows t.size.columns t.cells.now = cond-true (fitting t) _ [] fit in
            let tall : row < t.size.rows = ltb-true _ _ (rw (cond-true (fitting t) t.size.rows 0 fit) at on.0) in
            let wide : column + length new ≤ t.size.columns = leb-true _ _ (rw (cond-true (fitting t) t.size.columns 0 fit) at on.1) in
            let size = eqb-true _ _ fit in
            rw (into.put, grid)
            (put_laws (rows_of t.size.rows t.size.columns t.cells.now) row column (omega (arith, length-rows t.size.rows t.size.columns t.cells.now))
            (omega (arith, length-row t.size.rows t.size.columns t.cells.now row tall (omega arith))))
        | inr unfit ↦ absurd (let none : row < 0 = ltb-true _ _ (rw (cond-false (fitting t) t.size.rows 0 unfit) at on.0) in omega arith)
      ]

  pub lawfully : (t u : Grid C) (row column : ℕ) (r : Result Unit Fault) → fault_of r ≡ put_refusal (height t) (width t) row column (length new) → MatchResult r (λ _. PutInto l g t u row column new) (λ _. u ≡ t) → Lawfully l g t u row column new r
  lawfully t u row column (Ok x) e into = accepted t u row column e into
  lawfully t u row column (Err f) e same = tt
