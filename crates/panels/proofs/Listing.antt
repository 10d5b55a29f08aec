-- The numbers of an order for which a test holds, listed one after another.
use Rattle.std.proofs.Common.{◌≡◌, ℕ, ◌+◌, ◌<◌, Bool, true, false, cond, ◌&&◌, List, [], ◌∷◌, length, get_or, take, drop, set, count_by, arith}
use Rattle.std.specs.List.{filter}
use Rattle.std.proofs.lemmas.List.{append-nil, drop-set-lt, drop-drop}
use Rattle.std.proofs.lemmas.List.Elements.{filter_more}
use Rattle.std.proofs.lemmas.List.Sums.{count_by_more_yes, count_by_more_no}
use Rattle.std.proofs.lemmas.Bool.Decides.{nat_tests}
use Rattle.std.proofs.lemmas.Grind.{common_steps}
use Rattle.orders.specs.Orders.{has, times}
use Rattle.orders.proofs.OrderLaws.{Once, has_none, times_one}

-- `count` numbers are at the front of a list that was `entry`: those of the first places of the order that pass
pub record Listed (p : ℕ → Bool) (order entry list : List ℕ) (place count : ℕ) : Type 0 where
  pub counted : count ≡ count_by p (take place order)
  pub front : take count list ≡ filter p (take place order)
  pub rest : drop count list ≡ drop count entry
  pub long : length list ≡ 16

module _ (p : ℕ → Bool) (order entry list : List ℕ) (place count n : ℕ) (listed : Listed p order entry list place count) (within : place < length order) (at : n ≡ get_or order place 0) where
  -- one place more, of a number that passes
  pub listed_yes : p n ≡ true → count < 16 → Listed p order entry (set list count n) (place + 1) (count + 1)
  listed_yes t room = record {
    counted = grind (arith, nat_tests, listed.counted, count_by_more_yes p order place 0 within);
    front = grind (arith, common_steps, listed.front, listed.long, filter_more p order place 0 within);
    rest = grind (arith, common_steps, drop-set-lt (count + 1) list count n (omega arith), drop-drop 1 count list, drop-drop 1 count entry, listed.rest);
    long = grind (arith, common_steps, listed.long);
  }

  -- or of one that does not
  pub listed_no : p n ≡ false → Listed p order entry list (place + 1) count
  listed_no f = record {
    counted = grind (arith, nat_tests, listed.counted, count_by_more_no p order place 0 within);
    front = grind (arith, common_steps, listed.front, append-nil, filter_more p order place 0 within);
    rest = listed.rest;
    long = listed.long;
  }

times_filter : (p : ℕ → Bool) (n : ℕ) (xs : List ℕ) → times n (filter p xs) ≡ cond (p n) (times n xs) 0
times_filter p n [] = grind (arith, nat_tests)
times_filter p n (x ∷ xs) = grind (arith, nat_tests, times_filter p n xs)

-- each number of an order that passes is listed once
pub listed_once : (p : ℕ → Bool) (order : List ℕ) (n : ℕ) → Once 16 order → times n (filter p order) ≡ cond (has n order && p n) 1 0
listed_once p order n once = grind (arith, nat_tests, times_filter p n order, has_none n order, times_one 16 n order once)
