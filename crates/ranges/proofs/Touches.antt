-- Touching a row again and again, and every row.
use Rattle.std.proofs.Common.{◌≡◌, ℕ, zero, suc, ◌-◌, ◌<◌, ◌≤◌, min, Bool, true, false, ◌&&◌, ◌||◌, eqb, leb, ◌⊎◌, List, length, get_or, set, Some, None, Option, sym, refl, ap, ◌∙◌, inl, inr, arith}
use Rattle.std.proofs.lemmas.List.FromFn.{length-map-range_with_len, get_or-map-range_with_len}
use Rattle.std.proofs.lemmas.List.{same_lists, length-set, get_or-set_same, get_or-set_other, get_or_default}
use Rattle.std.proofs.lemmas.Bool.{cases_eq, or_left, or_right, eq-eqb, ne_eqb}
use Rattle.std.proofs.lemmas.Bool.Decides.{nat_tests}
use Rattle.cells.specs.Widths.{within}
use Rattle.std.proofs.Math.Bool.{or-false, or_assoc}
use Rattle.ranges.specs.Ranges.{Range, range_fits, inside, near, smallest, touched_row, touch, joined_range}
use Rattle.ranges.proofs.Hulls.{Hull, hull, hull_like, hull_over, hull_inside, smallest_is, smallest_like, range_hull, inside_from, inside_bounds}

fitting_hull : (n : ℕ) (r : Option Range) → range_fits n r ≡ true → Hull (inside r) n r
fitting_hull n None f = λ c b. refl
fitting_hull n (Some r) f = range_hull r n (grind (arith, nat_tests)) (grind (arith, nat_tests))

hull_fitting : (p : ℕ → Bool) (n : ℕ) (r : Option Range) → Hull p n r → range_fits n r ≡ true
hull_fitting p n None h = refl
hull_fitting p n (Some r) h = grind (arith, nat_tests, h.order, h.below)

-- what touching gives always fits
pub touched_fits : (n : ℕ) (old : Option Range) (hit : ℕ → Bool) → range_fits n (touched_row n old hit) ≡ true
touched_fits n old hit = hull_fitting _ n (touched_row n old hit) (hull (λ c. inside old c || near hit c) n)

-- and holds what was touched
pub touched_holds : (n : ℕ) (old : Option Range) (hit : ℕ → Bool) (c : ℕ) → c < n → near hit c ≡ true → inside (touched_row n old hit) c ≡ true
touched_holds n old hit c b t =
    hull_inside (λ c. inside old c || near hit c) n (touched_row n old hit) (hull (λ c. inside old c || near hit c) n) c b (or_right (inside old c) (near hit c) t)

-- and the range before
pub touched_keeps : (n : ℕ) (old : Option Range) (hit : ℕ → Bool) (c : ℕ) → c < n → inside old c ≡ true → inside (touched_row n old hit) c ≡ true
touched_keeps n old hit c b t =
    hull_inside (λ c. inside old c || near hit c) n (touched_row n old hit) (hull (λ c. inside old c || near hit c) n) c b (or_left (inside old c) (near hit c) t)

-- near one of two sets of spots
pub near_or : (h k : ℕ → Bool) (c : ℕ) → near (λ x. h x || k x) c ≡ (near h c || near k c)
near_or h k zero = grind arith
near_or h k (suc c) = grind arith

-- it depends on the spots up to one past the last column only
pub near_like : (n : ℕ) (h k : ℕ → Bool) → ((c : ℕ) → c ≤ n → h c ≡ k c) → (c : ℕ) → c < n → near h c ≡ near k c
near_like n h k e zero b = rw (e 0 (omega arith), e 1 (omega arith)) refl
near_like n h k e (suc c) b = rw (e c (omega arith), e (suc c) (omega arith), e (suc (suc c)) (omega arith)) refl

-- a row touched twice is touched at the spots of both at once
pub row_twice : (n : ℕ) (old : Option Range) (h k : ℕ → Bool) → touched_row n (touched_row n old h) k ≡ touched_row n old (λ c. h c || k c)
row_twice n old h k =
    let p : ℕ → Bool = λ c. inside old c || near h c in
    let s : Option Range = smallest p n in
    sym
    (smallest_is (λ c. inside old c || near (λ x. h x || k x) c) n (touched_row n s k)
    (hull_like (λ c. p c || near k c) (λ c. inside old c || near (λ x. h x || k x) c) n (touched_row n s k)
    (λ c b. or_assoc (inside old c) (near h c) (near k c) ∙ ap (λ (t : Bool). inside old c || t) (sym (near_or h k c)))
    (hull_over p (near k) n s (touched_row n s k) (hull p n) (hull (λ c. inside s c || near k c) n))))

-- spots that are near no column of a row leave it, if it fits
pub row_far : (n : ℕ) (old : Option Range) (h : ℕ → Bool) → range_fits n old ≡ true → ((c : ℕ) → c < n → near h c ≡ false) → touched_row n old h ≡ old
row_far n old h f e =
    smallest_is (λ c. inside old c || near h c) n old
    (hull_like (inside old) (λ c. inside old c || near h c) n old (λ c b. sym (ap (λ (t : Bool). inside old c || t) (e c b) ∙ or-false (inside old c)))
    (fitting_hull n old f))

near_none : (c : ℕ) → near (λ _. false) c ≡ false
near_none zero = refl
near_none (suc c) = refl

-- and so do no spots
pub row_untouched : (n : ℕ) (old : Option Range) (h : ℕ → Bool) → range_fits n old ≡ true → ((c : ℕ) → h c ≡ false) → touched_row n old h ≡ old
row_untouched n old h f e = row_far n old h f (λ c b. near_like n h (λ _. false) (λ x _. e x) c b ∙ near_none c)

pub row_like : (n : ℕ) (old : Option Range) (h k : ℕ → Bool) → ((c : ℕ) → c ≤ n → h c ≡ k c) → touched_row n old h ≡ touched_row n old k
row_like n old h k e = smallest_like _ _ n (λ c b. ap (λ (t : Bool). inside old c || t) (near_like n h k e c b))

-- near a run of columns: from one before it to one after it
pub near_run : (first last c : ℕ) → first ≤ last → near (within first last) c ≡ (leb first (suc c) && leb c (suc last))
near_run first last zero h = grind (arith, nat_tests)
near_run first last (suc c) h = grind (arith, nat_tests)

-- a run of columns, widened and cut at the row's end, joins the range by its ends
module _ (n first last low high : ℕ) (order : first ≤ last) (is-low : low ≡ first - 1) (is-high : high ≡ min (suc last) (n - 1)) (some : low ≤ high) (below : high < n) where
  run_near : (c : ℕ) → c < n → near (within first last) c ≡ within low high c
  run_near c b = near_run first last c order ∙ (let e : (leb first (suc c) && leb c (suc last)) ≡ within low high c = grind (arith, nat_tests) in e)

  run_hull : (old : Option Range) → range_fits n old ≡ true → Hull (λ c. inside old c || within low high c) n (Some (joined_range old low high))
  run_hull None f = record {
    order = some;
    below = below;
    at_first = inside_from (low, high) low (omega arith) some;
    at_last = inside_from (low, high) high some (omega arith);
    holds = λ c b t. inside_bounds (low, high) c t;
  }
  run_hull (Some r) f = record {
    order = grind (arith, nat_tests);
    below = grind (arith, nat_tests);
    at_first = grind (arith, nat_tests);
    at_last = grind (arith, nat_tests);
    holds = λ c b t. (grind (arith, nat_tests), grind (arith, nat_tests));
  }

  pub row_run : (old : Option Range) → range_fits n old ≡ true → touched_row n old (within first last) ≡ Some (joined_range old low high)
  row_run old f =
      smallest_like (λ c. inside old c || near (within first last) c) (λ c. inside old c || within low high c) n (λ c b. ap (λ (t : Bool). inside old c || t) (run_near c b))
      ∙ smallest_is (λ c. inside old c || within low high c) n (Some (joined_range old low high)) (run_hull old f)

-- a run with no columns touches nothing, nor does one past the row's end
far : (n first last c : ℕ) → c < n → (last < first) ⊎ (n < first) → near (within first last) c ≡ false
far n first last zero b h = grind (arith, nat_tests)
far n first last (suc c) b h = grind (arith, nat_tests)

pub row_beyond : (n first last : ℕ) (old : Option Range) → range_fits n old ≡ true → (last < first) ⊎ (n < first) → touched_row n old (within first last) ≡ old
row_beyond n first last old f h = row_far n old (within first last) f (λ c b. far n first last c b h)

-- every row
module _ (n : ℕ) where
  pub length-touch : (ranges : List (Option Range)) (hit : ℕ → ℕ → Bool) → length (touch n ranges hit) ≡ length ranges
  unfolding touch
  length-touch ranges hit = length-map-range_with_len (λ row. touched_row n (get_or ranges row None) (hit row)) 0 (length ranges)

  pub get_or-touch : (ranges : List (Option Range)) (hit : ℕ → ℕ → Bool) (r : ℕ) (d : Option Range) → r < length ranges → get_or (touch n ranges hit) r d ≡ touched_row n (get_or ranges r None) (hit r)
  unfolding touch
  get_or-touch ranges hit r d h = get_or-map-range_with_len (λ row. touched_row n (get_or ranges row None) (hit row)) 0 (length ranges) r r d h (omega arith)

  pub touch_twice : (ranges : List (Option Range)) (h k : ℕ → ℕ → Bool) → touch n (touch n ranges h) k ≡ touch n ranges (λ r c. h r c || k r c)
  touch_twice ranges h k =
      same_lists _ _ (length-touch (touch n ranges h) k ∙ length-touch ranges h ∙ sym (length-touch ranges (λ r c. h r c || k r c)))
      (λ r d b.
      let one : r < length (touch n ranges h) = omega (arith, length-touch (touch n ranges h) k) in
      let within : r < length ranges = omega (arith, length-touch ranges h) in
      get_or-touch (touch n ranges h) k r d one
      ∙ ap (λ (o : Option Range). touched_row n o (k r)) (get_or-touch ranges h r None within)
      ∙ row_twice n (get_or ranges r None) (h r) (k r)
      ∙ sym (get_or-touch ranges (λ r c. h r c || k r c) r d within))

  pub touch_like : (ranges : List (Option Range)) (h k : ℕ → ℕ → Bool) → ((r c : ℕ) → r < length ranges → c ≤ n → h r c ≡ k r c) → touch n ranges h ≡ touch n ranges k
  touch_like ranges h k e =
      same_lists _ _ (length-touch ranges h ∙ sym (length-touch ranges k))
      (λ r d b.
      let within : r < length ranges = omega (arith, length-touch ranges h) in
      get_or-touch ranges h r d within ∙ row_like n (get_or ranges r None) (h r) (k r) (λ c b. e r c within b) ∙ sym (get_or-touch ranges k r d within))

  abbrev pub AllFit : List (Option Range) → Type 0
  AllFit ranges = (r : ℕ) → r < length ranges → range_fits n (get_or ranges r None) ≡ true

  pub touch_none : (ranges : List (Option Range)) (h : ℕ → ℕ → Bool) → AllFit ranges → ((r c : ℕ) → r < length ranges → h r c ≡ false) → touch n ranges h ≡ ranges
  touch_none ranges h f e =
      same_lists _ _ (length-touch ranges h)
      (λ r d b.
      let within : r < length ranges = omega (arith, length-touch ranges h) in
      get_or-touch ranges h r d within ∙ row_untouched n (get_or ranges r None) (h r) (f r within) (λ c. e r c within) ∙ get_or_default ranges r None d within)

  pub touch_fits : (ranges : List (Option Range)) (h : ℕ → ℕ → Bool) → AllFit (touch n ranges h)
  touch_fits ranges h r b =
      let within : r < length ranges = omega (arith, length-touch ranges h) in
      rw (get_or-touch ranges h r None within) (touched_fits n (get_or ranges r None) (h r))

  -- one row alone
  pub touch_one : (ranges : List (Option Range)) (row : ℕ) (h : ℕ → Bool) → AllFit ranges → row < length ranges → set ranges row (touched_row n (get_or ranges row None) h) ≡ touch n ranges (λ r c. eqb r row && h c)
  touch_one ranges row h f k =
      same_lists _ _ (length-set ranges row _ ∙ sym (length-touch ranges (λ r c. eqb r row && h c)))
      (λ r d b.
      let within : r < length ranges = omega (arith, length-set ranges row (touched_row n (get_or ranges row None) h)) in
      elim (cases_eq r row) [
        | inl e ↦
            ap (λ (x : ℕ). get_or (set ranges row (touched_row n (get_or ranges row None) h)) x d) e
            ∙ get_or-set_same ranges row _ d k
            ∙ row_like n (get_or ranges row None) h (λ c. eqb r row && h c) (λ c b. rw (eq-eqb r row e) refl)
            ∙ ap (λ (x : ℕ). touched_row n (get_or ranges x None) (λ c. eqb r row && h c)) (sym e)
            ∙ sym (get_or-touch ranges (λ r c. eqb r row && h c) r d within)
        | inr ne ↦
            get_or-set_other ranges row r _ d ne
            ∙ get_or_default ranges r d None within
            ∙ sym (row_untouched n (get_or ranges r None) (λ c. eqb r row && h c) (f r within) (λ c. rw (ne_eqb r row ne) refl))
            ∙ sym (get_or-touch ranges (λ r c. eqb r row && h c) r d within)
      ])
