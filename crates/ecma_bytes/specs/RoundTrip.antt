-- The emulator reads what is sent as the operation meant, and is between characters again; the reader takes UTF-8 for just the character.
use Rattle.std.specs.Prelude.{◌≡◌, ℕ, ◌<◌, ◌≤◌, true, ◌⊎◌, List, [], ◌∷◌, length, take, Some, None, Option}
use Rattle.cells.specs.Attributes.{are_attributes}
use Rattle.text_cells.specs.TextCells.{make}
use Rattle.terminal.specs.Operations.{spot}
use Rattle.places.specs.declared.Spot.{Spot}
use Rattle.reader.specs.Steps.{Step, stepped, completes}
use Rattle.reader.specs.declared.states.Action.TheVariants.{Show}
use Rattle.reader.specs.declared.states.State.TheVariants.{Plain}
use Rattle.emulator.specs.Screens.{Screen, with_state, with_cursor, with_pen, shows, read_bytes, CursorOnGrid, CompletesNothing}

-- a screen between characters
abbrev pub plain : Screen → Screen
plain s = with_state Plain s

-- on every screen of at most 9999 rows and columns with that cursor and that spot, the bytes move the cursor there and change nothing else
abbrev pub ReadsAsMove : Option Spot → ℕ → ℕ → List ℕ → Type 0
ReadsAsMove cursor row column bytes =
    (s : Screen) → s.cursor ≡ cursor → CursorOnGrid s → row < s.rows → column < s.columns → s.rows ≤ 9999 → s.columns ≤ 9999
    → read_bytes (plain s) bytes ≡ plain (with_cursor (Some (spot row column)) s)

-- on every screen with that pen, the bytes set the attributes and show the character, if it is below 65536, no control and no surrogate
abbrev pub ReadsAsCharacter : ℕ → ℕ → ℕ → List ℕ → Type 0
ReadsAsCharacter pen character attributes bytes =
    (s : Screen) → s.pen ≡ pen → are_attributes attributes ≡ true → 32 ≤ character → character < 65536 → (character < 55296) ⊎ (57344 ≤ character)
    → read_bytes (plain s) bytes ≡ shows (plain (with_pen attributes s)) (make character attributes)

-- where the reader stands after bytes, and what the last of them completed
abbrev pub steps_through : Step → List ℕ → Step
steps_through step [] = step
steps_through step (byte ∷ bytes) = steps_through (stepped step.0 byte) bytes

-- between characters, the reader takes the bytes for just that character
pub record DecodesTo (character : ℕ) (bytes : List ℕ) : Type 0 where
  -- the last byte completes it, and the reader is between characters again
  pub whole : steps_through (Plain, None) bytes ≡ completes (Show character)
  -- no byte of a shorter front completes anything
  pub shorter : (n : ℕ) → n < length bytes → CompletesNothing Plain (take n bytes)

-- the bytes are a character, if it is below 65536, no control and no surrogate
abbrev pub IsCharacter : ℕ → List ℕ → Type 0
IsCharacter character bytes = 32 ≤ character → character < 65536 → (character < 55296) ⊎ (57344 ≤ character) → DecodesTo character bytes
