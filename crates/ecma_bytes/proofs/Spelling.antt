-- What the reader makes of a character's UTF-8 form.
use Rattle.std.proofs.Common.{◌≡◌, ℕ, zero, suc, ◌+◌, ◌-◌, ◌*◌, ◌/◌, ◌%◌, ◌<◌, ◌≤◌, true, false, cond, ◌&&◌, eqb, leb, ◌⊎◌, List, [], ◌∷◌, ◌++◌, length, take, drop, None, Option, refl, ap, ◌∙◌, inl, inr, arith}
use lib.Seq.{drop-append_seam}
use lib.Utf8.{next, encode}
use Rattle.std.proofs.lemmas.Bool.{cases_lt, lt-ltb, le-ltb, cases_eq, eq-eqb, ne_eqb}
use Rattle.std.proofs.lemmas.Bool.Decides.{nat_tests}
use Rattle.cells.specs.Widths.{within}
use Rattle.reader.specs.Steps.{Step, stepped, gathers, completes}
use Rattle.reader.specs.declared.states.State.{State}
use Rattle.reader.specs.declared.states.State.TheVariants.{Plain, InCharacter}
use Rattle.reader.specs.declared.states.Action.{Action}
use Rattle.reader.specs.declared.states.Action.TheVariants.{Show}
use Rattle.emulator.specs.Screens.{Screen, with_state, acts, does, read_bytes, CompletesNothing}
use Rattle.ecma_bytes.specs.RoundTrip.{plain, steps_through, IsCharacter}

-- bytes of which only the last completes something, and the reader is between characters then
abbrev pub Spells : State → List ℕ → Action → Type 0
Spells state [] action = ⊥
Spells state (b ∷ []) action = stepped state b ≡ completes action
Spells state (b ∷ c ∷ rest) action = ((stepped state b).1 ≡ None) × Spells (stepped state b).0 (c ∷ rest) action

-- a screen does just that
pub spelled_read : (s : Screen) (state : State) (bytes : List ℕ) (action : Action) → Spells state bytes action → read_bytes (with_state state s) bytes ≡ acts (plain s) action
spelled_read s state [] action h = absurd h
spelled_read s state (b ∷ []) action h = ap (λ (p : Step). does (with_state p.0 s) p.1) h
spelled_read s state (b ∷ c ∷ rest) action h =
    ap (λ (o : Option Action). read_bytes (does (with_state (stepped state b).0 s) o) (c ∷ rest)) h.0
    ∙ spelled_read s (stepped state b).0 (c ∷ rest) action h.1

spelled_whole : (state : State) (old : Option Action) (bytes : List ℕ) (action : Action) → Spells state bytes action → steps_through (state, old) bytes ≡ completes action
spelled_whole state old [] action h = absurd h
spelled_whole state old (b ∷ []) action h = h
spelled_whole state old (b ∷ c ∷ rest) action h = spelled_whole (stepped state b).0 (stepped state b).1 (c ∷ rest) action h.1

spelled_shorter : (state : State) (bytes : List ℕ) (action : Action) → Spells state bytes action → (n : ℕ) → n < length bytes → CompletesNothing state (take n bytes)
spelled_shorter state bytes action h zero k = tt
spelled_shorter state [] action h (suc n) k = absurd h
spelled_shorter state (b ∷ []) action h (suc n) k = absurd (omega arith)
spelled_shorter state (b ∷ c ∷ rest) action h (suc n) k = (h.0, spelled_shorter (stepped state b).0 (c ∷ rest) action h.1 n (omega arith))

-- the first byte of a character, and those that follow
lead_one : (c : ℕ) → 32 ≤ c → c < 128 → stepped Plain c ≡ completes (Show c)
lead_one c h k =
    let escape : eqb c 27 ≡ false = grind (arith, nat_tests) in
    let ascii : leb c 127 ≡ true = grind (arith, nat_tests) in
    rw (escape, ascii)

lead_two : (q : ℕ) → 2 ≤ q → q ≤ 31 → stepped Plain (192 + q) ≡ gathers q 1 128 191
lead_two q h k =
    let escape : eqb (192 + q) 27 ≡ false = grind (arith, nat_tests) in
    let ascii : leb (192 + q) 127 ≡ false = grind (arith, nat_tests) in
    let two : within 194 223 (192 + q) ≡ true = grind (arith, nat_tests) in
    let bits : 192 + q - 192 ≡ q = omega arith in
    rw (escape, ascii, two, bits)

-- the bounds of the second byte of three
low_after : ℕ → ℕ
low_after q = cond (eqb q 0) 160 128

high_after : ℕ → ℕ
high_after q = cond (eqb q 13) 159 191

lead_three : (q : ℕ) → q ≤ 15 → stepped Plain (224 + q) ≡ gathers q 2 (low_after q) (high_after q)
unfolding low_after high_after
lead_three zero k = refl
lead_three (suc q) k =
    let escape : eqb (224 + suc q) 27 ≡ false = grind (arith, nat_tests) in
    let ascii : leb (224 + suc q) 127 ≡ false = grind (arith, nat_tests) in
    let two : within 194 223 (224 + suc q) ≡ false = grind (arith, nat_tests) in
    let least : eqb (224 + suc q) 224 ≡ false = grind (arith, nat_tests) in
    let some : eqb (suc q) 0 ≡ false = grind (arith, nat_tests) in
    elim (cases_eq (suc q) 13) [
      | inl e ↦ rw e
      | inr ne ↦
          let surrogates : eqb (224 + suc q) 237 ≡ false = grind (arith, nat_tests) in
          let three : within 225 239 (224 + suc q) ≡ true = grind (arith, nat_tests) in
          let other : eqb (suc q) 13 ≡ false = ne_eqb (suc q) 13 ne in
          let bits : 224 + suc q - 224 ≡ suc q = omega arith in
          rw (escape, ascii, two, least, surrogates, three, some, other, bits)
    ]

abbrev gathered : ℕ → ℕ → ℕ → ℕ → State
gathered bits left low high = InCharacter (record { bits = bits; left = left; low = low; high = high })

module _ (bits low high r : ℕ) (few : bits ≤ 17407) (small : r ≤ 63) (from : low ≤ 128 + r) (to : 128 + r ≤ high) where
  fits : ((within low high (128 + r) && within 128 191 (128 + r)) && leb bits 17407) ≡ true
  fits = grind (arith, nat_tests)

  value : 128 + r - 128 ≡ r
  value = omega arith

  last_byte : stepped (gathered bits 1 low high) (128 + r) ≡ completes (Show (bits * 64 + r))
  last_byte = rw (fits, value)

  one_to_come : stepped (gathered bits 2 low high) (128 + r) ≡ gathers (bits * 64 + r) 1 128 191
  one_to_come = rw (fits, value)

two_spelled : (c : ℕ) → 128 ≤ c → c < 2048 → Spells Plain ((192 + c / 64) ∷ next c ∷ []) (Show c)
two_spelled c h k =
    let whole : c / 64 * 64 + c % 64 ≡ c = omega arith in
    let first = lead_two (c / 64) (omega arith) (omega arith) in
    let second = last_byte (c / 64) 128 191 (c % 64) (omega arith) (omega arith) (omega arith) (omega arith) in
    (ap (λ (p : Step). p.1) first, ap (λ (p : Step). stepped p.0 (next c)) first ∙ second ∙ ap (λ (x : ℕ). completes (Show x)) whole)

three_spelled : (c : ℕ) → 2048 ≤ c → c < 65536 → (c < 55296) ⊎ (57344 ≤ c) → Spells Plain ((224 + c / 4096) ∷ next (c / 64) ∷ next c ∷ []) (Show c)
unfolding low_after high_after
three_spelled c h k scalar =
    let low : low_after (c / 4096) ≤ 128 + c / 64 % 64 =
    elim (cases_eq (c / 4096) 0) [ inl e ↦ rw (eq-eqb (c / 4096) 0 e) (omega arith) | inr ne ↦ rw (ne_eqb (c / 4096) 0 ne) (omega arith) ] in
    let high : 128 + c / 64 % 64 ≤ high_after (c / 4096) =
    elim (cases_eq (c / 4096) 13) [
      | inl e ↦ rw (eq-eqb (c / 4096) 13 e) (elim scalar [ inl below ↦ omega arith | inr above ↦ omega arith ])
      | inr ne ↦ rw (ne_eqb (c / 4096) 13 ne) (omega arith)
    ] in
    let whole : (c / 4096 * 64 + c / 64 % 64) * 64 + c % 64 ≡ c = omega arith in
    let first = lead_three (c / 4096) (omega arith) in
    let second = one_to_come (c / 4096) (low_after (c / 4096)) (high_after (c / 4096)) (c / 64 % 64) (omega arith) (omega arith) low high in
    let third = last_byte (c / 4096 * 64 + c / 64 % 64) 128 191 (c % 64) (omega arith) (omega arith) (omega arith) (omega arith) in
    let through = ap (λ (p : Step). stepped p.0 (next (c / 64))) first ∙ second in (
      ap (λ (p : Step). p.1) first,
      (ap (λ (p : Step). p.1) through, ap (λ (p : Step). stepped p.0 (next c)) through ∙ third ∙ ap (λ (x : ℕ). completes (Show x)) whole),
    )

-- a character below 0x10000 that is no control and no surrogate
pub spelled : (c : ℕ) → 32 ≤ c → c < 65536 → (c < 55296) ⊎ (57344 ≤ c) → Spells Plain (encode c) (Show c)
unfolding encode
spelled c from to scalar =
    elim (cases_lt c 128) [
      | inl one ↦ rw (lt-ltb c 128 one) (lead_one c from one)
      | inr more ↦
          elim (cases_lt c 2048) [
            | inl two ↦ rw (le-ltb c 128 more, lt-ltb c 2048 two) (two_spelled c more two)
            | inr three ↦ rw (le-ltb c 128 more, le-ltb c 2048 three, lt-ltb c 65536 to) (three_spelled c three to scalar)
          ]
    ]

pub encoded : (c : ℕ) → IsCharacter c (encode c)
encoded c from to scalar =
    let h = spelled c from to scalar in
    record { whole = spelled_whole Plain None (encode c) (Show c) h; shorter = spelled_shorter Plain (encode c) (Show c) h }

-- the same of what follows a front of other bytes
pub decoded_after : (front bytes : List ℕ) (c : ℕ) → bytes ≡ front ++ encode c → IsCharacter c (drop (length front) bytes)
decoded_after front bytes c e = rw (e, drop-append_seam) (encoded c)
