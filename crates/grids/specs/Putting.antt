-- The put rule on one row, for those who know grids only.
pub use Rattle.put_rule.specs.Putting.{among, holds, loses_left, loses_right, put_at}
unfoldable pub use Rattle.put_rule.specs.Putting.{put_row}
