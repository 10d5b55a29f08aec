-- The order of the shown panels, from bottom to top, as a list of their numbers.
use Rattle.std.specs.Prelude.{ℕ, ◌+◌, Bool, cond, not, ◌&&◌, List, [], ◌∷◌, ◌++◌, ◌==◌, nat_lt}
use Rattle.std.specs.List.{list_any}

-- is a number in the order?
abbrev pub has : ℕ → List ℕ → Bool
has number order = list_any (λ n. n == number) order

-- how often it is
abbrev pub times : ℕ → List ℕ → ℕ
times number [] = 0
times number (n ∷ order) = cond (n == number) 1 0 + times number order

-- the order without it
abbrev pub without : ℕ → List ℕ → List ℕ
without number [] = []
without number (n ∷ order) = cond (n == number) (without number order) (n ∷ without number order)

-- a panel comes on top, if there can be one of that number and it is not shown
abbrev pub shown_on_top : ℕ → List ℕ → List ℕ
shown_on_top number order = cond (nat_lt number 16 && not (has number order)) (order ++ number ∷ []) order

-- a shown panel comes to the top, or to the bottom
abbrev pub raised : ℕ → List ℕ → List ℕ
raised number order = cond (has number order) (without number order ++ number ∷ []) order

abbrev pub lowered : ℕ → List ℕ → List ℕ
lowered number order = cond (has number order) (number ∷ without number order) order
