-- A line that gives a width is text.
use Rattle.std.proofs.Common.{◌≡◌, ℕ, zero, suc, List, [], ◌∷◌, get_or, drop, IsUtf8, IsAscii, None, Result, Ok, Err, MatchResult, subst, inl, inr, arith}
use Rattle.std.specs.Result.{result_ok}
use Rattle.std.specs.Str.Parse.{AllDigits, without_leading_plus}
use Rattle.std.proofs.lemmas.Str.Parse.{without_leading_plus_plus, without_leading_plus_none}
use Rattle.std.proofs.lemmas.Fmt.{IsAscii-from_digits}
use Rattle.std.proofs.lemmas.Bool.{cases_eq}
use Rattle.std.proofs.lemmas.Str.{IsUtf8-from_ascii}
use Rattle.pick_list.specs.WidthLine.{IsWidth}

after_ascii : (bs : List ℕ) → get_or bs 0 0 ≡ 43 → AllDigits 10 (drop 1 bs) → IsAscii bs
after_ascii [] e h i = omega arith
after_ascii (c ∷ cs) e h zero = omega arith
after_ascii (c ∷ cs) e h (suc i) = IsAscii-from_digits cs h i

pub numeral_utf8 : (bs : List ℕ) → AllDigits 10 (without_leading_plus bs) → IsUtf8 bs
numeral_utf8 bs h =
    IsUtf8-from_ascii bs
    (elim (cases_eq (get_or bs 0 0) 43) [
      | inl e ↦ after_ascii bs e (subst (AllDigits 10) (without_leading_plus_plus bs e) h)
      | inr n ↦ IsAscii-from_digits bs (subst (AllDigits 10) (without_leading_plus_none bs n) h)
    ])

-- what is said of the error of a call whose value is not taken
pub in_error : {A E : Type 0} (r : Result A E) (P : A → Type 0) (Q : E → Type 0) → result_ok r ≡ None → MatchResult r P Q → (e : E) × Q e
in_error (Ok x) P Q e h = absurd (cc)
in_error (Err x) P Q e h = (x, h)

pub width_utf8 : (line : List ℕ) (n : ℕ) → IsWidth line n → IsUtf8 line
width_utf8 line n h = numeral_utf8 line h.numeral.1
