-- The ranges that are kept, as the list of rows.
use Rattle.std.proofs.Common.{◌≡◌, ℕ, zero, suc, ◌<◌, ◌≤◌, Bool, true, ◌&&◌, eqb, List, [], ◌∷◌, length, get_or, take, set, replicate, None, Option, sym, refl, ap, ◌∙◌, arith}
use Rattle.std.proofs.lemmas.List.{get_or-take, length-take, length-take-le, set_past}
use Rattle.std.proofs.lemmas.Bool.{ne_eqb}
use Rattle.std.proofs.lemmas.Grind.{common_steps}
use Rattle.ranges.specs.Ranges.{Range, range_fits, touched_row, touch}
use Rattle.ranges.proofs.Touches.{AllFit, touch_one, touch_none}

abbrev Ranges : Type 0
Ranges = List (Option Range)

-- every range that is kept fits
abbrev pub AllKept : ℕ → Ranges → Type 0
AllKept n ranges = (row : ℕ) → range_fits n (get_or ranges row None) ≡ true

pub none_fits : (n m : ℕ) → AllKept n (replicate m None)
none_fits n m row = grind (arith, common_steps)

-- also where one is written anew
pub set-fits : (n : ℕ) (ranges : Ranges) (row : ℕ) (new : Option Range) → AllKept n ranges → range_fits n new ≡ true → AllKept n (set ranges row new)
set-fits n ranges row new f g r = let h = f r in grind (arith, common_steps, set_past)

-- of the kept ranges those of the rows
pub taken_fit : (n rows : ℕ) (ranges : Ranges) → AllKept n ranges → AllFit n (take rows ranges)
taken_fit n rows ranges f r h = let k = f r in grind (arith, common_steps)

pub take_set_any : {X : Type 0} (n : ℕ) (xs : List X) (i : ℕ) (x : X) → take n (set xs i x) ≡ set (take n xs) i x
take_set_any zero xs i x = refl
take_set_any (suc n) [] i x = refl
take_set_any (suc n) (y ∷ xs) zero x = refl
take_set_any (suc n) (y ∷ xs) (suc i) x = ap (λ (zs : List _). y ∷ zs) (take_set_any n xs i x)

-- one row touched
pub kept_touch : (n rows : ℕ) (ranges : Ranges) (row : ℕ) (h : ℕ → Bool) → AllKept n ranges → rows ≤ length ranges → row < rows → take rows (set ranges row (touched_row n (get_or ranges row None) h)) ≡ touch n (take rows ranges) (λ r c. eqb r row && h c)
kept_touch n rows ranges row h f long b =
    take_set_any rows ranges row (touched_row n (get_or ranges row None) h)
    ∙ ap (λ (o : Option Range). set (take rows ranges) row (touched_row n o h)) (sym (get_or-take rows ranges row None b))
    ∙ touch_one n (take rows ranges) row h (taken_fit n rows ranges f) (rw (length-take-le rows ranges long) b)

-- a row past the last is not touched
pub kept_past : (n rows : ℕ) (ranges : Ranges) (row : ℕ) (h : ℕ → Bool) → AllKept n ranges → rows ≤ row → take rows ranges ≡ touch n (take rows ranges) (λ r c. eqb r row && h c)
kept_past n rows ranges row h f b =
    sym
    (touch_none n (take rows ranges) (λ r c. eqb r row && h c) (taken_fit n rows ranges f)
    (λ r c k. let ne : r ≡ row → ⊥ = λ e. omega (arith, length-take rows ranges) in rw (ne_eqb r row ne) refl))
