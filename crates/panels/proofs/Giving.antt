-- A number is given a panel.
use Rattle.std.proofs.Common.{◌≡◌, ℕ, ◌<◌, List, length, get_or, Some, None, Option, arith}
use Rattle.std.proofs.lemmas.Grind.{common_steps}
use Rattle.std.proofs.lemmas.List.{length-map}
use Rattle.panels.specs.Decks.{deck_of, panel_of}
use Rattle.panels.specs.declared.panel.Panel.{Panel}
use Rattle.panels.specs.declared.records.Panels.{Panels}

-- a number that was given a panel is one of the places
pub given_within : (given : List (Option Panel)) (n : ℕ) (p : Panel) → Some p ≡ get_or given n None → n < length given
given_within given n p e = grind (arith, common_steps)

-- so it is below 16
pub given_number : (s : Panels) (n : ℕ) (p : Panel) → Some p ≡ panel_of (deck_of s) n → n < 16
given_number s n p e = omega (arith, simp length-map at (given_within (deck_of s).given n p e), s.sixteen)
