-- Views that lie in the cells that windows have taken.
use Rattle.std.specs.Prelude.{ℕ, Bool, true, Some, None, Option}
use Rattle.areas.specs.Addresses.{ends_below}
use Rattle.panels.specs.declared.panel.Panel.{Panel}

abbrev pub view_below : ℕ → Option Panel → Bool
view_below end None = true
view_below end (Some p) = ends_below end p.view
