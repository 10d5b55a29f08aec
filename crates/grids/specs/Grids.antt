-- A grid as its rows, for those who know grids only.
pub use Rattle.put_rule.specs.Grids.{fits, row_at, put_grid}
unfoldable pub use Rattle.put_rule.specs.Grids.{rows_of}
