-- The rows of a grid in the memory that holds them.
use Rattle.std.proofs.Common.{◌≡◌, ℕ, zero, suc, ◌+◌, ◌-◌, ◌*◌, ◌<◌, ◌≤◌, Bool, true, false, cond, ◌&&◌, ltb, List, [], ◌∷◌, ◌++◌, length, take, drop, set, None, sym, refl, ap, ◌∙◌, ap₂, mul-le-mul_right, suc-mul, zero-mul, arith}
use Rattle.std.specs.List.{slice_get}
use borrow.Rule.Slice.PartMut.{put_mid}
use Rattle.std.proofs.lemmas.List.{get_or_past, length-take-le, length-drop, take_at, drop_at, drop-drop, drop-take, drop-append-le}
use Rattle.std.proofs.lemmas.Bool.{ltb-false}
use Rattle.std.proofs.lemmas.Slice.{take-put_mid_below}
use Rattle.cells.specs.Kinds.{Layer, Glyph}
use Rattle.put_rule.specs.Putting.{put_row}
use Rattle.put_rule.specs.Grids.{rows_of, row_at, put_grid}
use Rattle.put_rule.proofs.PutRows.{length-put}

-- a row ends inside the memory of all rows
pub row_end : (row rows w : ℕ) → row < rows → row * w + w ≤ rows * w
row_end row rows w h = omega (arith, suc-mul row w, mul-le-mul_right {m = suc row} {n = rows} w h)

module _ {C : Type 0} where
  -- as many rows as asked for
  pub length-rows : (rows w : ℕ) (cells : List C) → length (rows_of rows w cells) ≡ rows
  unfolding rows_of
  length-rows zero w cells = refl
  length-rows (suc rows) w cells = ap suc (length-rows rows w (drop w cells))

  -- each a part of the memory
  pub row_is : (rows w : ℕ) (cells : List C) (row : ℕ) → row < rows → row_at (rows_of rows w cells) row ≡ take w (drop (row * w) cells)
  unfolding rows_of
  row_is zero w cells row h = absurd (omega arith)
  row_is (suc rows) w cells zero h = rw zero-mul
  row_is (suc rows) w cells (suc row) h =
      row_is rows w (drop w cells) row (omega arith) ∙ ap (take w) (drop-drop (row * w) w cells ∙ ap (λ (n : ℕ). drop n cells) (rw suc-mul (omega arith)))

  -- off the rows, and where there are none, nothing is found
  pub off_rows : (fit : Bool) (rows w : ℕ) (cells : List C) (row column : ℕ) → (fit && ltb row rows) ≡ false → None ≡ slice_get (row_at (cond fit (rows_of rows w cells) []) row) column
  off_rows false rows w cells row column e = refl
  off_rows true rows w cells row column e =
      rw (get_or_past (rows_of rows w cells) row [] (omega (arith, length-rows rows w cells, ltb-false row rows e))) refl

  -- of that many columns
  pub length-row : (rows w : ℕ) (cells : List C) (row : ℕ) → row < rows → rows * w ≤ length cells → length (row_at (rows_of rows w cells) row) ≡ w
  length-row rows w cells row h fit =
      ap length (row_is rows w cells row h) ∙ length-take-le w (drop (row * w) cells) (omega (arith, length-drop (row * w) cells, row_end row rows w h))

  -- what stands behind the front, after a part past it was written over
  below_front : (w m n : ℕ) (cells new : List C) → w + m ≤ length cells → drop w (put_mid (w + m) n cells new) ≡ put_mid m n (drop w cells) new
  below_front w m n cells new h =
      drop-append-le w (take (w + m) cells) (new ++ drop n (drop (w + m) cells)) (omega (arith, length-take-le (w + m) cells h))
      ∙ ap₂ (λ (xs ys : List C). xs ++ (new ++ drop n ys)) (drop-take w m cells) (sym (drop-drop m w cells))

  -- a row written over
  pub write_row : (rows w : ℕ) (cells : List C) (row : ℕ) (new : List C) → row < rows → rows * w ≤ length cells → length new ≡ w → rows_of rows w (put_mid (row * w) w cells new) ≡ set (rows_of rows w cells) row new
  unfolding rows_of
  write_row zero w cells row new h fit long = absurd (omega arith)
  write_row (suc rows) w cells zero new h fit long =
      rw zero-mul (ap₂ (λ (r : List C) (rs : List (List C)). r ∷ rs) (take_at new (drop w cells) w long) (ap (rows_of rows w) (drop_at new (drop w cells) w long)))
  write_row (suc rows) w cells (suc row) new h fit long =
      let more : w ≤ length cells = omega (arith, suc-mul rows w) in
      let room : row * w + w ≤ rows * w = row_end row rows w (omega arith) in
      let front : take w (put_mid (suc row * w) w cells new) ≡ take w cells = take-put_mid_below (suc row * w) w cells new w (omega (arith, suc-mul row w)) (omega (arith, suc-mul row w, suc-mul rows w)) in
      let sum : suc row * w ≡ w + row * w = omega (arith, suc-mul row w) in
      let back : drop w (put_mid (suc row * w) w cells new) ≡ put_mid (row * w) w (drop w cells) new = rw sum (below_front w (row * w) w cells new (omega (arith, suc-mul rows w))) in
      let rest = write_row rows w (drop w cells) row new (omega arith) (omega (arith, suc-mul rows w, length-drop w cells)) long in
      ap₂ (λ (r : List C) (rs : List (List C)). r ∷ rs) front (ap (rows_of rows w) back ∙ rest)

  -- a row by where it begins and ends
  pub row_part : (rows w : ℕ) (cells : List C) (row start end : ℕ) → row < rows → start ≡ row * w → end ≡ start + w → row_at (rows_of rows w cells) row ≡ take (end - start) (drop start cells)
  row_part rows w cells row start end h e f =
      let size : end - start ≡ w = omega arith in
      rw (size, e) (row_is rows w cells row h)

  -- cells put into a row
  pub put_in : (l : Layer C) (g : Glyph C) (rows w : ℕ) (cells : List C) (row start end from : ℕ) (new changed : List C) → row < rows → length cells ≡ rows * w → start ≡ row * w → end ≡ start + w → changed ≡ put_row l g (take (end - start) (drop start cells)) from new → rows_of rows w (put_mid start (end - start) cells changed) ≡ put_grid l g (rows_of rows w cells) row from new
  put_in l g rows w cells row start end from new changed h fit s t e =
      let size : end - start ≡ w = omega arith in
      let is : changed ≡ put_row l g (row_at (rows_of rows w cells) row) from new = e ∙ ap (λ (r : List C). put_row l g r from new) (sym (row_part rows w cells row start end h s t)) in
      let long : length changed ≡ w = ap length is ∙ length-put l g (row_at (rows_of rows w cells) row) from new ∙ length-row rows w cells row h (omega arith) in
      rw (size, s) (write_row rows w cells row changed h (omega arith) long ∙ ap (set (rows_of rows w cells) row) is)
