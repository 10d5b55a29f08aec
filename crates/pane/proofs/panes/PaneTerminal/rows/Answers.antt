use Rattle.pane_parts.proofs.Operating.{pane_sound}
use Rattle.pane.proofs.panes.PaneTerminal.rows.Goals as goal

pub returns-clause-sound : goal.returns-clause-sound
returns-clause-sound g c = pane_sound _ c.args.self.now.area c.size.ensures.sound
