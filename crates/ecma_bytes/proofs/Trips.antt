-- What the emulator makes of the bytes of each operation.
use Rattle.std.proofs.Common.{◌≡◌, ℕ, zero, suc, ◌+◌, ◌-◌, ◌*◌, ◌/◌, ◌%◌, ◌<◌, ◌≤◌, min, true, false, ◌&&◌, eqb, ltb, leb, ◌⊎◌, List, [], ◌∷◌, ◌++◌, Some, None, Option, sym, ap, ◌∙◌, ap₂, subst, inl, inr, arith, rules}
use lib.Utf8.{encode}
use Rattle.text_cells.specs.TextCells.{make}
use Rattle.std.proofs.lemmas.Bool.{cases_lt, lt-leb, le-leb, cases_Bool, and_parts, eqb-true, eqb-false, leb-true}
use Rattle.std.proofs.lemmas.Bool.Decides.{nat_tests}
use Rattle.cells.specs.Attributes.{are_attributes}
use Rattle.reader.specs.Steps.{Step, stepped, takes_digit, is_first_digit}
use Rattle.reader.specs.declared.states.State.TheVariants.{Plain, InSequence}
use Rattle.reader.specs.declared.states.Sequence.{Sequence}
use Rattle.reader.specs.declared.states.Action.TheVariants.{Show}
use Rattle.reader.specs.declared.states.Sequence.TheVariants.{Opened, First, Parted, Second}
use Rattle.emulator.specs.Screens.{Screen, with_state, with_cursor, with_pen, does, right_by, shows, read_byte, read_bytes, CursorOnGrid}
use Rattle.emulator.proofs.Reading.{read_append}
use Rattle.terminal.specs.Operations.{spot}
use Rattle.places.specs.declared.Spot.{Spot}
use Rattle.ecma_bytes.proofs.Spelling.{spelled, spelled_read}
use Rattle.ecma_bytes.specs.Bytes.{number, right_bytes, to_bytes, move_bytes, change_bytes, pen_bytes, put_bytes}
use Rattle.ecma_bytes.specs.RoundTrip.{plain, ReadsAsMove, ReadsAsCharacter}

-- each sum of attributes, one after another
abbrev AllBelow : (ℕ → Type 0) → ℕ → Type 0
AllBelow P zero = Unit {0}
AllBelow P (suc n) = AllBelow P n × P n

each_below : (P : ℕ → Type 0) (n : ℕ) → AllBelow P n → (k : ℕ) → k < n → P k
each_below P zero all k below = absurd (omega arith)
each_below P (suc n) all k below =
    elim (cases_lt k n) [
      | inl less ↦ each_below P n all.0 k less
      | inr last ↦ let same : n ≡ k = omega arith in subst P same all.1
    ]

change_read : (s : Screen) (a : ℕ) → a ≤ 15 → read_bytes (plain s) (change_bytes a) ≡ plain (with_pen a s)
change_read s a h = each_below (λ (k : ℕ). read_bytes (plain s) (change_bytes k) ≡ plain (with_pen k s)) 16 (search rules) a (omega arith)

pen_read : (s : Screen) (a : ℕ) → are_attributes a ≡ true → read_bytes (plain s) (pen_bytes s.pen a) ≡ plain (with_pen a s)
pen_read s a h =
    elim (cases_Bool (eqb s.pen a)) [
      | inl same ↦ rw same (ap (λ (p : ℕ). plain (with_pen p s)) (eqb-true s.pen a same))
      | inr other ↦ rw other (change_read s a (leb-true a 15 h))
    ]

-- a number goes on in a sequence: the state before it, and the states that digits lead to
module _ (begin : Sequence) (number_in : ℕ → Sequence)
    (one : (d : ℕ) → 1 ≤ d → d ≤ 9 → stepped (InSequence begin) (48 + d) ≡ (InSequence (number_in d), None))
    (more : (n d : ℕ) → n ≤ 999 → d ≤ 9 → stepped (InSequence (number_in n)) (48 + d) ≡ (InSequence (number_in (n * 10 + d)), None))
    (s : Screen) where
  first_digit : (d : ℕ) → 1 ≤ d → d ≤ 9 → read_byte (with_state (InSequence begin) s) (48 + d) ≡ with_state (InSequence (number_in d)) s
  first_digit d h k = ap (λ (p : Step). does (with_state p.0 s) p.1) (one d h k)

  next_digit : (n d m : ℕ) → n ≤ 999 → d ≤ 9 → n * 10 + d ≡ m → read_byte (with_state (InSequence (number_in n)) s) (48 + d) ≡ with_state (InSequence (number_in m)) s
  next_digit n d m h k e = ap (λ (p : Step). does (with_state p.0 s) p.1) (more n d h k) ∙ ap (λ (x : ℕ). with_state (InSequence (number_in x)) s) e

  -- the digits of the number so far, one byte more
  and_digit : (m d n : ℕ) (x : Screen) → m ≤ 999 → d ≤ 9 → m * 10 + d ≡ n → x ≡ with_state (InSequence (number_in m)) s → read_byte x (48 + d) ≡ with_state (InSequence (number_in n)) s
  and_digit m d n x h k e at = ap (λ (y : Screen). read_byte y (48 + d)) at ∙ next_digit m d n h k e

  pub number_read : (n : ℕ) → 1 ≤ n → n ≤ 9999 → read_bytes (with_state (InSequence begin) s) (number n) ≡ with_state (InSequence (number_in n)) s
  number_read n h k =
      elim (cases_lt n 10) [
        | inl small ↦
            let d : n % 10 ≡ n = omega arith in
            rw (lt-leb 1000 n (omega arith), lt-leb 100 n (omega arith), lt-leb 10 n small, d) (first_digit n h (omega arith))
        | inr ten ↦
            elim (cases_lt n 100) [
              | inl small ↦
                  rw (lt-leb 1000 n (omega arith), lt-leb 100 n small, le-leb 10 n ten)
                  (and_digit (n / 10 % 10) (n % 10) n _ (omega arith) (omega arith) (omega arith) (first_digit (n / 10 % 10) (omega arith) (omega arith)))
              | inr hundred ↦
                  elim (cases_lt n 1000) [
                    | inl small ↦
                        rw (lt-leb 1000 n small, le-leb 100 n hundred, le-leb 10 n ten)
                        (and_digit (n / 10) (n % 10) n _ (omega arith) (omega arith) (omega arith)
                        (and_digit (n / 100 % 10) (n / 10 % 10) (n / 10) _ (omega arith) (omega arith) (omega arith) (first_digit (n / 100 % 10) (omega arith) (omega arith))))
                    | inr thousand ↦
                        rw (le-leb 1000 n thousand, le-leb 100 n hundred, le-leb 10 n ten)
                        (and_digit (n / 10) (n % 10) n _ (omega arith) (omega arith) (omega arith)
                        (and_digit (n / 100) (n / 10 % 10) (n / 10) _ (omega arith) (omega arith) (omega arith)
                        (and_digit (n / 1000 % 10) (n / 100 % 10) (n / 100) _ (omega arith) (omega arith) (omega arith) (first_digit (n / 1000 % 10) (omega arith) (omega arith)))))
                  ]
            ]
      ]

-- the two places where a number stands
taken : (n d : ℕ) → n ≤ 999 → d ≤ 9 → takes_digit n (48 + d) ≡ true
taken n d h k = grind (arith, nat_tests)

first_of : (d : ℕ) → 1 ≤ d → d ≤ 9 → is_first_digit (48 + d) ≡ true
first_of d h k = grind (arith, nat_tests)

value_of : (d : ℕ) → 48 + d - 48 ≡ d
value_of d = omega arith

opened_one : (d : ℕ) → 1 ≤ d → d ≤ 9 → stepped (InSequence Opened) (48 + d) ≡ (InSequence (First d), None)
opened_one d h k = let zero-not : eqb (48 + d) 48 ≡ false = grind (arith, nat_tests) in rw (zero-not, first_of d h k, value_of d)

first_more : (n d : ℕ) → n ≤ 999 → d ≤ 9 → stepped (InSequence (First n)) (48 + d) ≡ (InSequence (First (n * 10 + d)), None)
first_more n d h k = rw (taken n d h k, value_of d)

parted_one : (r d : ℕ) → 1 ≤ d → d ≤ 9 → stepped (InSequence (Parted r)) (48 + d) ≡ (InSequence (Second r d), None)
parted_one r d h k = rw (first_of d h k, value_of d)

second_more : (r n d : ℕ) → n ≤ 999 → d ≤ 9 → stepped (InSequence (Second r n)) (48 + d) ≡ (InSequence (Second r (n * 10 + d)), None)
second_more r n d h k = rw (taken n d h k, value_of d)

-- ESC [ n C
right_read : (s : Screen) (n : ℕ) → 1 ≤ n → n ≤ 9999 → read_bytes (plain s) (right_bytes n) ≡ plain (with_cursor (right_by s.columns s.cursor n) s)
right_read s n h k =
    read_append (with_state (InSequence Opened) s) (number n) (0x43 ∷ [])
    ∙ ap (λ (x : Screen). read_byte x 0x43) (number_read Opened First opened_one first_more s n h k)

-- ESC [ row ; column H
to_read : (s : Screen) (row column : ℕ) → row < s.rows → column < s.columns → s.rows ≤ 9999 → s.columns ≤ 9999 → read_bytes (plain s) (to_bytes row column) ≡ plain (with_cursor (Some (spot row column)) s)
to_read s row column h k tall wide =
    let on : (ltb 0 s.rows && ltb 0 s.columns) ≡ true = grind (arith, nat_tests) in
    let r : min (row + 1 - 1) (s.rows - 1) ≡ row = omega arith in
    let c : min (column + 1 - 1) (s.columns - 1) ≡ column = omega arith in
    read_append (with_state (InSequence Opened) s) (number (row + 1)) (0x3B ∷ (number (column + 1) ++ (0x48 ∷ [])))
    ∙ ap (λ (x : Screen). read_bytes x (0x3B ∷ (number (column + 1) ++ (0x48 ∷ [])))) (number_read Opened First opened_one first_more s (row + 1) (omega arith) (omega arith))
    ∙ read_append (with_state (InSequence (Parted (row + 1))) s) (number (column + 1)) (0x48 ∷ [])
    ∙ ap (λ (x : Screen). read_byte x 0x48) (number_read (Parted (row + 1)) (Second (row + 1)) (parted_one (row + 1)) (second_more (row + 1)) s (column + 1) (omega arith) (omega arith))
    ∙ ap (λ (o : Option Spot). plain (with_cursor o s)) (rw (on, r, c))

-- the cursor's move, by where it is
move_from : (s : Screen) (cursor : Option Spot) (row column : ℕ) → s.cursor ≡ cursor → CursorOnGrid s → row < s.rows → column < s.columns → s.rows ≤ 9999 → s.columns ≤ 9999 → read_bytes (plain s) (move_bytes cursor row column) ≡ plain (with_cursor (Some (spot row column)) s)
move_from s None row column e on h k tall wide = to_read s row column h k tall wide
move_from s (Some at) row column e on h k tall wide =
    elim (cases_Bool (eqb at.row row && leb at.column column)) [
      | inl same ↦
          let parts = and_parts (eqb at.row row) (leb at.column column) same in
          let row_is = eqb-true at.row row parts.0 in
          let left = leb-true at.column column parts.1 in
          elim (cases_Bool (eqb at.column column)) [
            | inl here ↦
                let column-is = eqb-true _ _ here in
                rw (same, here) (ap (λ (o : Option Spot). plain (with_cursor o s)) (e ∙ ap₂ (λ (r c : ℕ). Some (spot r c)) row_is column-is))
            | inr apart ↦
                let further = eqb-false _ _ apart in
                let stop : min (at.column + (column - at.column)) (s.columns - 1) ≡ column = omega arith in
                rw (same, apart)
                (right_read s (column - at.column) (omega (arith, further)) (omega arith)
                ∙ ap (λ (o : Option Spot). plain (with_cursor o s)) (ap (λ (o : Option Spot). right_by s.columns o (column - at.column)) e ∙ ap₂ (λ (r c : ℕ). Some (spot r c)) row_is stop))
          ]
      | inr other ↦ rw other (to_read s row column h k tall wide)
    ]

pub reads_as_move : (cursor : Option Spot) (row column : ℕ) (bytes : List ℕ) → bytes ≡ move_bytes cursor row column → ReadsAsMove cursor row column bytes
reads_as_move cursor row column bytes e s at on h k tall wide = ap (read_bytes (plain s)) e ∙ move_from s cursor row column at on h k tall wide

-- a character below 0x10000 that is no control and no surrogate, as UTF-8
encode_read : (s : Screen) (c : ℕ) → 32 ≤ c → c < 65536 → (c < 55296) ⊎ (57344 ≤ c) → read_bytes (plain s) (encode c) ≡ shows (plain s) (make c s.pen)
encode_read s c from to scalar = spelled_read s Plain (encode c) (Show c) (spelled c from to scalar)

pub reads_as_character : (pen character attributes : ℕ) (bytes : List ℕ) → bytes ≡ put_bytes pen character attributes → ReadsAsCharacter pen character attributes bytes
reads_as_character pen character attributes bytes e s same fit from to scalar =
    ap (read_bytes (plain s)) (e ∙ ap (λ (p : ℕ). put_bytes p character attributes) (sym same))
    ∙ read_append (plain s) (pen_bytes s.pen attributes) (encode character)
    ∙ ap (λ (x : Screen). read_bytes x (encode character)) (pen_read s attributes fit)
    ∙ encode_read (with_pen attributes s) character from to scalar
