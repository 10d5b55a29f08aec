-- How many bytes change the pen, and what UTF-8 makes of a character.
use Rattle.std.proofs.Common.{◌≡◌, ℕ, ◌+◌, ◌*◌, ◌/◌, ◌<◌, ◌≤◌, true, eqb, [], ◌∷◌, length, refl, arith}
use lib.Count.{ones, ones_in}
use lib.Utf8.{next, encode}
use Rattle.std.proofs.lemmas.Bool.{lt-ltb, le-ltb, eqb-true, agree_below_at}
use Rattle.ecma_bytes.specs.Bytes.{change_bytes}

pub change_size : (a : ℕ) → a ≤ 15 → 4 + 2 * ones a ≡ length (change_bytes a)
unfolding ones ones_in
change_size a h = eqb-true _ _ (agree_below_at (λ (k : ℕ). eqb (4 + 2 * ones k) (length (change_bytes k))) (λ _. true) 16 a refl (omega arith))

pub two_bytes : (c : ℕ) → 128 ≤ c → c < 2048 → encode c ≡ (192 + c / 64) ∷ next c ∷ []
unfolding encode
two_bytes c h k = rw (le-ltb c 128 h, lt-ltb c 2048 k)

pub three_bytes : (c : ℕ) → 128 ≤ c → 2048 ≤ c → c < 65536 → encode c ≡ (224 + c / 4096) ∷ next (c / 64) ∷ next c ∷ []
unfolding encode
three_bytes c h k m = rw (le-ltb c 128 h, le-ltb c 2048 k, lt-ltb c 65536 m)
