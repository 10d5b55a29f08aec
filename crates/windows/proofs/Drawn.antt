-- One cell drawn at more and more addresses.
use Rattle.std.proofs.Common.{◌≡◌, ℕ, ◌+◌, ◌-◌, ◌*◌, Bool, false, cond, ◌||◌, List, sym, refl, ap, ◌∙◌, add-zero, arith}
use Rattle.std.proofs.lemmas.List.{get_or_default}
use Rattle.std.proofs.lemmas.Bool.Decides.{nat_tests}
use Rattle.std.proofs.lemmas.Bool.{cond-false}
use Rattle.cells.specs.Kinds.{Layer, Glyph}
use Rattle.areas.specs.Addresses.{area, in_area, in_span, in_rows}
use Rattle.std.proofs.Math.Bool.{or-false}
use Rattle.areas.specs.Memories.{by_address}
use Rattle.areas.specs.declared.Area.{Area}
use Rattle.areas.proofs.MemoryLaws.{by_address_like, by_address_twice, by_address_same, get_or-by_address}
use Rattle.cell_memory.specs.Writing.{cell_at}
use Rattle.windows.specs.Cells.{drawn, last_row, end_rows, on_side_column, on_end_row, on_corner, cell_of, edged}

module _ {C : Type 0} (l : Layer C) (memory : List C) where
  pub drawn_like : (p q : ℕ → Bool) (c : C) → ((x : ℕ) → p x ≡ q x) → by_address memory (drawn l memory p c) ≡ by_address memory (drawn l memory q c)
  drawn_like p q c e = by_address_like memory _ _ (λ x h. ap (λ (b : Bool). cond b c (cell_at l memory x)) (e x))

  pub none_drawn : (p : ℕ → Bool) (c : C) → ((x : ℕ) → p x ≡ false) → memory ≡ by_address memory (drawn l memory p c)
  none_drawn p c e =
      by_address_same memory (drawn l memory p c) (λ x d h. get_or_default memory x d l.blank h ∙ sym (cond-false (p x) c (cell_at l memory x) (e x)))

  -- the same cell at more addresses
  pub drawn_more : (p q : ℕ → Bool) (c : C) (now after : List C) → now ≡ by_address memory (drawn l memory p c) → after ≡ by_address now (drawn l now q c) → after ≡ by_address memory (drawn l memory (λ x. p x || q x) c)
  drawn_more p q c now after e f =
      f ∙ ap (λ (m : List C). by_address m (drawn l m q c)) e
      ∙ by_address_twice memory (drawn l memory p c) _
      ∙ by_address_like memory _ _ (λ x h. let old = get_or-by_address memory (drawn l memory p c) x l.blank h in grind (arith, nat_tests))

  -- the first and the last column of an area
  pub sides_drawn : (a left right : Area) (c : C) (one two : List C) → left ≡ area (a.base + 0) a.pitch a.height 1 → right ≡ area (a.base + (a.width - 1)) a.pitch a.height 1 → one ≡ by_address memory (drawn l memory (in_area left) c) → two ≡ by_address one (drawn l one (in_area right) c) → two ≡ by_address memory (drawn l memory (on_side_column a a.height) c)
  sides_drawn a left right c one two el er e f =
      drawn_more (in_area left) (in_area right) c one two e f
      ∙ drawn_like (λ x. in_area left x || in_area right x) (on_side_column a a.height) c (λ x. rw (el, er, add-zero) refl)

-- the two end rows as an area, and its sides
pub ends_are : (a : Area) (x : ℕ) → in_area (end_rows a) x ≡ on_end_row a x
unfolding in_rows
ends_are a x = ap (λ (b : Bool). in_span a.base a.width x || b) (or-false (in_span (last_row a) a.width x))

corners_of : (a b s t : Bool) → ((a || (s || false)) || (b || (t || false))) ≡ ((a || b) || (s || t))
corners_of a b s t = grind arith

pub corners_are : (a : Area) (x : ℕ) → on_side_column (end_rows a) 2 x ≡ on_corner a x
unfolding in_rows
corners_are a x =
    let right : last_row a + (a.width - 1) ≡ a.base + (a.width - 1) + (a.height - 1) * a.pitch = omega arith in
    corners_of (in_span a.base 1 x) (in_span (a.base + (a.width - 1)) 1 x) (in_span (last_row a) 1 x) (in_span (a.base + (a.width - 1) + (a.height - 1) * a.pitch) 1 x)
    ∙ ap (λ (n : ℕ). (in_span a.base 1 x || in_span (a.base + (a.width - 1)) 1 x) || (in_span (last_row a) 1 x || in_span n 1 x)) (sym right)

-- the sides, then the end rows over them, then the corners over both
pub edge_drawn : {C : Type 0} (l : Layer C) (g : Glyph C) (memory : List C) (a : Area) (attributes : ℕ) (bar minus plus : C) (one two three : List C) → bar ≡ cell_of l g attributes 124 → minus ≡ cell_of l g attributes 45 → plus ≡ cell_of l g attributes 43 → one ≡ by_address memory (drawn l memory (on_side_column a a.height) bar) → two ≡ by_address one (drawn l one (on_end_row a) minus) → three ≡ by_address two (drawn l two (on_corner a) plus) → three ≡ by_address memory (edged l g memory a attributes)
edge_drawn {C} l g memory a attributes bar minus plus one two three eb em ep e1 e2 e3 =
    let sides : ℕ → C = drawn l memory (on_side_column a a.height) bar in
    let ends : ℕ → C = λ x. cond (on_end_row a x) minus (sides x) in
    let two_is : two ≡ by_address memory ends = e2 ∙ ap (λ (m : List C). by_address m (drawn l m (on_end_row a) minus)) e1 ∙ by_address_twice memory sides _
    ∙ by_address_like memory _ ends (λ x h. ap (λ (o : C). cond (on_end_row a x) minus o) (get_or-by_address memory sides x l.blank h)) in
    e3 ∙ ap (λ (m : List C). by_address m (drawn l m (on_corner a) plus)) two_is ∙ by_address_twice memory ends _
    ∙ by_address_like memory _ (edged l g memory a attributes)
    (λ x h. ap (λ (o : C). cond (on_corner a x) plus o) (get_or-by_address memory ends x l.blank h) ∙ rw (eb, em, ep) refl)
