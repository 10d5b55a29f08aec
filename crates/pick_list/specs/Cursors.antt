-- How the programs print where a cursor is.
use Rattle.std.specs.Prelude.{ℕ, List, ◌++◌, codes, Some, None, Option}
use Rattle.std.specs.Fmt.{decimal}
use Rattle.places.specs.declared.Spot.{Spot}
use Rattle.pick_list.specs.declared.Cursor.{Cursor}

abbrev spot_text : Option Spot → List ℕ
spot_text None = codes "cursor unknown"
spot_text (Some s) = codes "cursor " ++ (decimal s.row ++ (codes " " ++ decimal s.column))

-- its row and column, or that it is at no known spot
abbrev pub cursor_text : Cursor → List ℕ
cursor_text c = spot_text c.0
