-- The part of a grid inside a rectangle, and what a put leaves of it.
use Rattle.std.proofs.Common.{◌≡◌, ℕ, zero, suc, ◌+◌, ◌-◌, ◌<◌, ◌≤◌, Bool, true, false, ◌&&◌, List, [], ◌∷◌, map, length, get_or, take, drop, set, sym, refl, ap, ◌∙◌, add-suc, suc-add, arith}
use Rattle.std.specs.List.{slice_get}
use Rattle.std.proofs.Math.Seq.{take-set-lt}
use Rattle.std.proofs.lemmas.List.{same_lists, length-take-le, length-drop, get_or-take, get_or-drop, get_or-map, drop-set-add, map-set, length-map}
use Rattle.std.proofs.lemmas.Bool.Decides.{nat_tests}
use Rattle.cells.specs.Kinds.{Layer, Glyph}
use Rattle.cells.specs.Rows.{before}
use Rattle.put_rule.specs.Putting.{among, holds, loses_left, loses_right, put_at, put_row}
use Rattle.put_rule.specs.Grids.{row_at, put_grid}
use Rattle.put_rule.proofs.PutRows.{length-put, get_or-put}
use Rattle.pane_parts.specs.Panes.{part}
use Rattle.places.specs.declared.Rectangle.{Rectangle}

-- a cut of a row: w columns from `left` on
abbrev pub cut : {C : Type 0} → ℕ → ℕ → List C → List C
cut left w row = take w (drop left row)

module _ {C : Type 0} where
  pub length_cut : (left w : ℕ) (row : List C) → left + w ≤ length row → length (cut left w row) ≡ w
  length_cut left w row h = length-take-le w (drop left row) (omega (arith, length-drop left row))

  nth_drop : (left : ℕ) (row : List C) (j : ℕ) → slice_get (drop left row) j ≡ slice_get row (left + j)
  nth_drop zero row j = ap (slice_get row) (omega arith)
  nth_drop (suc left) [] j = refl
  nth_drop (suc left) (x ∷ row) j = nth_drop left row j ∙ sym (ap (slice_get (x ∷ row)) (suc-add left j))

  slice_get_take : (w : ℕ) (row : List C) (j : ℕ) → j < w → slice_get (take w row) j ≡ slice_get row j
  slice_get_take zero row j h = absurd (omega arith)
  slice_get_take (suc w) [] j h = refl
  slice_get_take (suc w) (x ∷ row) zero h = refl
  slice_get_take (suc w) (x ∷ row) (suc j) h = slice_get_take w row j (omega arith)

  nth_cut : (left w : ℕ) (row : List C) (j : ℕ) → j < w → slice_get (cut left w row) j ≡ slice_get row (left + j)
  nth_cut left w row j h = slice_get_take w (drop left row) j h ∙ nth_drop left row j

  get_or-cut : (left w : ℕ) (row : List C) (j : ℕ) (d : C) → j < w → get_or (cut left w row) j d ≡ get_or row (left + j) d
  get_or-cut left w row j d h = get_or-take w (drop left row) j d h ∙ get_or-drop left row j d

-- two tests are equal if their first parts are, and their second ones wherever those hold
and_under : (a b x y : Bool) → a ≡ b → (b ≡ true → x ≡ y) → (a && x) ≡ (b && y)
and_under a true x y e h = rw e (h refl)
and_under a false x y e h = rw e

module _ {C : Type 0} (l : Layer C) (g : Glyph C) (left w : ℕ) (row : List C) (c : ℕ) (new : List C) (wide : left + w ≤ length row) (fit : c + length new ≤ w) where
  same_left : (k : ℕ) → k < w → loses_left g row (left + c) (length new) (left + k) ≡ loses_left g (cut left w row) c (length new) k
  same_left k h = and_under _ _ _ _ (grind (arith, nat_tests)) (neighbour k h)
    where
      neighbour : (k : ℕ) → k < w → among (suc c) (length new) k ≡ true → holds g.left (before row (left + k)) ≡ holds g.left (before (cut left w row) k)
      neighbour zero h e = absurd (let z : suc c ≤ 0 = grind (arith, nat_tests) in omega arith)
      neighbour (suc k) h e = ap (holds g.left) (ap (before row) (add-suc left k) ∙ sym (nth_cut left w row k (omega arith)))

  same_right : (k : ℕ) → k < w → loses_right g row (left + c) (length new) (left + k) ≡ loses_right g (cut left w row) c (length new) k
  same_right k h =
      and_under _ _ _ _ (grind (arith, nat_tests))
      (λ (e : among c (length new) (suc k) ≡ true). let inner : suc k < w = grind (arith, nat_tests) in
      ap (holds g.right) (ap (slice_get row) (sym (add-suc left k)) ∙ sym (nth_cut left w row (suc k) inner)))

  same_put : (k : ℕ) → k < w → put_at l g row (left + c) new (left + k) ≡ put_at l g (cut left w row) c new k
  same_put k h =
      let put : among (left + c) (length new) (left + k) ≡ among c (length new) k = grind (arith, nat_tests) in
      let index : left + k - (left + c) ≡ k - c = omega arith in
      rw (put, index, same_left k h, same_right k h, get_or-cut left w row k l.blank h)

  -- what a put leaves of a cut is the put into the cut
  pub put_cut : cut left w (put_row l g row (left + c) new) ≡ put_row l g (cut left w row) c new
  put_cut =
      let long : left + w ≤ length (put_row l g row (left + c) new) = omega (arith, length-put l g row (left + c) new) in
      let size = length_cut left w row wide in
      same_lists _ _ (length_cut left w (put_row l g row (left + c) new) long ∙ sym (length-put l g (cut left w row) c new ∙ size))
      (λ k d h. let inner : k < w = omega (arith, length_cut left w (put_row l g row (left + c) new) long) in
      get_or-cut left w (put_row l g row (left + c) new) k d inner
      ∙ get_or-put l g row (left + c) new (left + k) d (omega arith)
      ∙ same_put k inner
      ∙ sym (get_or-put l g (cut left w row) c new k d (omega (arith, size))))

module _ {C : Type 0} (area : Rectangle) where
  -- a row of the part
  pub part_row : (grid : List (List C)) (r : ℕ) → r < area.height → area.top + area.height ≤ length grid → row_at (part area grid) r ≡ cut area.left area.width (row_at grid (area.top + r))
  part_row grid r h tall =
      let rows = take area.height (drop area.top grid) in
      let size : length rows ≡ area.height = length-take-le area.height (drop area.top grid) (omega (arith, length-drop area.top grid)) in
      get_or-map (cut area.left area.width) rows r [] [] (omega arith)
      ∙ ap (cut area.left area.width) (get_or-take area.height (drop area.top grid) r [] h ∙ get_or-drop area.top grid r [])

  pub length_part : (grid : List (List C)) → area.top + area.height ≤ length grid → length (part area grid) ≡ area.height
  length_part grid tall = length-map _ _ ∙ length-take-le area.height (drop area.top grid) (omega (arith, length-drop area.top grid))

  part_set : (grid : List (List C)) (r : ℕ) (row : List C) → r < area.height → part area (set grid (area.top + r) row) ≡ set (part area grid) r (cut area.left area.width row)
  part_set grid r row h =
      ap (λ (rows : List (List C)). map (cut area.left area.width) (take area.height rows)) (drop-set-add area.top grid r row)
      ∙ ap (map (cut area.left area.width)) (take-set-lt area.height (drop area.top grid) r row h)
      ∙ map-set (cut area.left area.width) (take area.height (drop area.top grid)) r row

  -- what a put leaves of the part is the put into the part
  pub put_part : (l : Layer C) (g : Glyph C) (grid : List (List C)) (r c : ℕ) (new : List C) → r < area.height → area.top + area.height ≤ length grid → area.left + area.width ≤ length (row_at grid (area.top + r)) → c + length new ≤ area.width → part area (put_grid l g grid (area.top + r) (area.left + c) new) ≡ put_grid l g (part area grid) r c new
  put_part l g grid r c new h tall wide fit =
      part_set grid r _ h
      ∙ ap (set (part area grid) r) (put_cut l g area.left area.width (row_at grid (area.top + r)) c new wide fit ∙ ap (λ (row : List C). put_row l g row c new) (sym (part_row grid r h tall)))
