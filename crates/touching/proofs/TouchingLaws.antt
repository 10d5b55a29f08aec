-- Touching nothing, touching twice, and touching the same spots said in another way.
use Rattle.std.proofs.Common.{◌≡◌, ℕ, ◌+◌, ◌-◌, ◌<◌, ◌≤◌, Bool, false, ◌||◌, List, length, Option, sym, refl, ap, ◌∙◌, arith}
use Rattle.std.proofs.lemmas.List.{length-take}
use Rattle.std.proofs.lemmas.Bool.Decides.{nat_tests as tells}
use Rattle.ranges.specs.Ranges.{Range, touch}
use Rattle.ranges.proofs.Touches.{touch_none, touch_twice, touch_like}
use Rattle.touching.specs.TouchedRows.{ranges_of, in_run, in_rectangle, Touching}
use Rattle.places.specs.declared.Size.{Size}
use Rattle.touching.specs.declared.records.Touched.{Touched}
use Rattle.touching.proofs.KeptRanges.{taken_fit}

-- a row of the list is one of the rows
row_within : (t : Touched) (r : ℕ) → r < length (ranges_of t) → r < t.size.rows
row_within t r h = omega (arith, length-take t.size.rows t.ranges)

pub touching_none : (t : Touched) (h : ℕ → ℕ → Bool) → ((r c : ℕ) → r < t.size.rows → h r c ≡ false) → Touching t t h
touching_none t h e = record {
  size = refl;
  ranges = sym (touch_none t.size.columns (ranges_of t) h (taken_fit t.size.columns t.size.rows t.ranges t.fit) (λ r c b. e r c (row_within t r b)));
}

pub touching_then : (t u v : Touched) (h k : ℕ → ℕ → Bool) → Touching t u h → Touching u v k → Touching t v (λ r c. h r c || k r c)
touching_then t u v h k a b = record {
  size = b.size ∙ a.size;
  ranges = b.ranges ∙ ap (λ (n : ℕ). touch n (ranges_of u) k) (ap (λ (z : Size). z.columns) a.size) ∙ ap (λ (rs : List (Option Range)). touch t.size.columns rs k) a.ranges ∙ touch_twice t.size.columns (ranges_of t) h k;
}

pub touching_like : (t u : Touched) (h k : ℕ → ℕ → Bool) → ((r c : ℕ) → r < t.size.rows → c ≤ t.size.columns → h r c ≡ k r c) → Touching t u h → Touching t u k
touching_like t u h k e a = record {
  size = a.size;
  ranges = a.ranges ∙ touch_like t.size.columns (ranges_of t) h k (λ r c b. e r c (row_within t r b));
}

-- a rectangle grows by a row; its last column may be any number past the screen if it lies there
pub rectangle_more : (top left width last row r c : ℕ) → top ≤ row → ((c < left + width → c ≤ last) × (c ≤ last → c < left + width)) → (in_rectangle top left (row - top) width r c || in_run row left last r c) ≡ in_rectangle top left (row + 1 - top) width r c
rectangle_more top left width last row r c h e = grind (arith, tells)

-- rows past the last do not count: a loop that ended at `row` went as far as the rectangle or the rows
pub rectangle_cut : (top left height width rows row r c : ℕ) → r < rows → top ≤ row → (row < top + height → rows ≤ row) → (top ≤ rows → row ≤ top + height) → in_rectangle top left (row - top) width r c ≡ in_rectangle top left height width r c
rectangle_cut top left height width rows row r c h a e f = grind (arith, tells)
