-- What stands at each address after cells were written.
use Rattle.std.specs.Prelude.{ℕ, ◌+◌, ◌-◌, cond, List, length, slice_index_or}
use Rattle.cells.specs.Kinds.{Layer}
use Rattle.areas.specs.Addresses.{in_span}

module _ {C : Type 0} (l : Layer C) (memory : List C) where
  -- the cell at an address before; past the memory's end there is none, and the blank stands in for it
  abbrev pub cell_at : ℕ → C
  cell_at x = slice_index_or memory x l.blank

  -- one cell at each of n addresses
  abbrev pub filled : ℕ → ℕ → C → ℕ → C
  filled from n c x = cond (in_span from n x) c (cell_at x)

  -- at each of n addresses the cell that lay further on
  abbrev pub shifted : ℕ → ℕ → ℕ → ℕ → C
  shifted to distance n x = cond (in_span to n x) (cell_at (x + distance)) (cell_at x)

  -- cells one after another
  abbrev pub written : ℕ → List C → ℕ → C
  written from cells x = cond (in_span from (length cells) x) (slice_index_or cells (x - from) l.blank) (cell_at x)
