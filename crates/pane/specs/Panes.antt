-- What a pane means, for those who know panes only, and what no operation changes of it.
use Rattle.std.specs.Prelude.{◌≡◌}
use Rattle.pane.specs.declared.panes.Pane.{Pane}
pub use Rattle.pane_parts.specs.Panes.{fits_in, pane_fits, part, inside, seen_from, pane_rows, pane_columns, pane_of}

-- the rectangle, and which terminal is below
pub record SamePane {T : Type 0} (p q : Pane T) : Type 0 where
  pub area : q.area ≡ p.area
  pub held : q.below.ghost_name ≡ p.below.ghost_name
