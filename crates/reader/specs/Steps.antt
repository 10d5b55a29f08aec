-- The table of the reader: what each state makes of each byte.
use Rattle.std.specs.Prelude.{ℕ, ◌+◌, ◌-◌, ◌*◌, Bool, cond, ◌&&◌, eqb, leb, ltb, Some, None, Option}
use Rattle.cells.specs.Widths.{within}
use Rattle.reader.specs.declared.states.Action.{Action}
use Rattle.reader.specs.declared.states.Action.TheVariants.{Show, Right, To, SetPen}
use Rattle.reader.specs.declared.states.Gathered.{Gathered}
use Rattle.reader.specs.declared.states.Sequence.{Sequence}
use Rattle.reader.specs.declared.states.Sequence.TheVariants.{Escape, Opened, First, Parted, Second, Attributes, More}
use Rattle.reader.specs.declared.states.State.{State}
use Rattle.reader.specs.declared.states.State.TheVariants.{Plain, InSequence, InCharacter}

-- where the reader stands after a byte, and what that completed, if anything
abbrev pub Step : Type 0
Step = State × Option Action

-- a byte that does not fit is dropped, with all that was gathered
abbrev pub dropped : Step
dropped = (Plain, None)

abbrev pub in_sequence : Sequence → Step
in_sequence s = (InSequence s, None)

abbrev pub completes : Action → Step
completes a = (Plain, Some a)

abbrev pub gathers : ℕ → ℕ → ℕ → ℕ → Step
gathers bits left low high = (InCharacter (record { bits = bits; left = left; low = low; high = high }), None)

-- the first byte of a character: below 0x80 it is the character; else it says how many bytes follow, and in which bounds
-- the next one lies, so that no longer form than needed, no surrogate and nothing past 0x10FFFF fits
abbrev pub begin_character : ℕ → Step
begin_character b =
    cond (leb b 0x7F) (completes (Show b))
    (cond (within 0xC2 0xDF b) (gathers (b - 0xC0) 1 0x80 0xBF)
    (cond (eqb b 0xE0) (gathers 0 2 0xA0 0xBF)
    (cond (eqb b 0xED) (gathers 0xD 2 0x80 0x9F)
    (cond (within 0xE1 0xEF b) (gathers (b - 0xE0) 2 0x80 0xBF)
    (cond (eqb b 0xF0) (gathers 0 3 0x90 0xBF)
    (cond (within 0xF1 0xF3 b) (gathers (b - 0xF0) 3 0x80 0xBF)
    (cond (eqb b 0xF4) (gathers 4 3 0x80 0x8F)
    dropped)))))))

-- a further byte of a character; no bytes gather more than 0x43FF before the last one
abbrev pub continue_character : Gathered → ℕ → Step
continue_character g b =
    cond ((within g.low g.high b && within 0x80 0xBF b) && leb g.bits 0x43FF)
    (cond (leb g.left 1) (completes (Show (g.bits * 64 + (b - 0x80)))) (gathers (g.bits * 64 + (b - 0x80)) (g.left - 1) 0x80 0xBF))
    dropped

-- is the byte a decimal digit, and one from 1 on?
abbrev pub is_digit : ℕ → Bool
is_digit b = within 48 57 b

abbrev pub is_first_digit : ℕ → Bool
is_first_digit b = within 49 57 b

-- a number takes one digit more as long as it has fewer than four
abbrev pub takes_digit : ℕ → ℕ → Bool
takes_digit n b = is_digit b && leb n 999

abbrev pub with_digit : ℕ → ℕ → ℕ
with_digit n b = n * 10 + (b - 48)

-- the attribute that a digit stands for: 1 bold, 4 underlined, 5 blinking, 7 reverse
abbrev pub attribute_of : ℕ → Option ℕ
attribute_of b = cond (eqb b 49) (Some 1) (cond (eqb b 52) (Some 2) (cond (eqb b 53) (Some 4) (cond (eqb b 55) (Some 8) None)))

-- an attribute is set if it stands after all that are set already
abbrev pub sets : ℕ → Option ℕ → Step
sets a None = dropped
sets a (Some bit) = cond (ltb a bit) (in_sequence (Attributes (a + bit))) dropped

-- a digit after a semicolon sets its attribute
abbrev pub attribute : ℕ → ℕ → Step
attribute a b = sets a (attribute_of b)

-- a further byte of a sequence: "[" 91, ";" 59, "C" 67, "H" 72, "m" 109; after the last attribute no semicolon fits
abbrev pub continue_sequence : Sequence → ℕ → Step
continue_sequence Escape b = cond (eqb b 91) (in_sequence Opened) dropped
continue_sequence Opened b = cond (eqb b 48) (in_sequence (Attributes 0)) (cond (is_first_digit b) (in_sequence (First (b - 48))) dropped)
continue_sequence (First n) b =
    cond (takes_digit n b) (in_sequence (First (with_digit n b)))
    (cond (eqb b 59) (in_sequence (Parted n)) (cond (eqb b 67) (completes (Right n)) dropped))
continue_sequence (Parted r) b = cond (is_first_digit b) (in_sequence (Second r (b - 48))) dropped
continue_sequence (Second r n) b =
    cond (takes_digit n b) (in_sequence (Second r (with_digit n b))) (cond (eqb b 72) (completes (To r n)) dropped)
continue_sequence (Attributes a) b = cond (eqb b 59 && ltb a 8) (in_sequence (More a)) (cond (eqb b 109) (completes (SetPen a)) dropped)
continue_sequence (More a) b = attribute a b

abbrev pub begin_sequence : Step
begin_sequence = in_sequence Escape

-- the whole table; 0x1B is ESC
abbrev pub stepped : State → ℕ → Step
stepped Plain b = cond (eqb b 0x1B) begin_sequence (begin_character b)
stepped (InSequence s) b = continue_sequence s b
stepped (InCharacter g) b = continue_character g b
