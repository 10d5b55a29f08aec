-- What lies inside a size.
use Rattle.std.specs.Prelude.{ℕ, ◌+◌, ◌*◌, Bool, cond, ◌&&◌, ◌==◌, nat_le, nat_lt}
use Rattle.places.specs.declared.Spot.{Spot}
use Rattle.places.specs.declared.Size.{Size}
use Rattle.places.specs.declared.Rectangle.{Rectangle}

abbrev pub spot : ℕ → ℕ → Spot
spot row column = record { row = row; column = column }

abbrev pub size : ℕ → ℕ → Size
size rows columns = record { rows = rows; columns = columns }

-- does a spot lie in the rows and columns?
abbrev pub holds : Size → Spot → Bool
holds z s = nat_lt s.row z.rows && nat_lt s.column z.columns

-- are so many cells just one for each spot?
abbrev pub fits : Size → ℕ → Bool
fits z cells = cells == z.rows * z.columns

-- a size over a memory of so many cells, none of any other number
abbrev pub over : Size → ℕ → Size
over z cells = cond (fits z cells) z (size 0 0)

-- does a rectangle lie inside a size?
abbrev pub lies_in : Rectangle → Size → Bool
lies_in a z = nat_le (a.top + a.height) z.rows && nat_le (a.left + a.width) z.columns
