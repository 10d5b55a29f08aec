-- Attributes: a sum of 1 bold, 2 underlined, 4 blinking and 8 reverse.
use Rattle.std.specs.Prelude.{ℕ, Bool, nat_le}

abbrev pub are_attributes : ℕ → Bool
are_attributes a = nat_le a 15
