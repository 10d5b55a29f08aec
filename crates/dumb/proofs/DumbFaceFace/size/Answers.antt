use Rattle.std.proofs.Common.{arith}
use Rattle.std.proofs.lemmas.Bool.{and_parts}
use Rattle.grids.specs.GridViews.{fitting}
use Rattle.terminal.proofs.Devices.{sound_over}
use Rattle.dumb.specs.Dumbs.{is_size, is_usable}
use Rattle.dumb.proofs.DumbFaceFace.size.Goals as goal

pub returns-then-is_usable-clause-sound : goal.returns-then-is_usable-clause-sound
returns-then-is_usable-clause-sound c =
    let f = c.args.self.now in
    sound_over (is_usable f) f.grid f.cursor 0 4 0 (λ h. (and_parts (is_size f.grid.size.rows f.grid.size.columns) (fitting f.grid) h).1) (omega arith)
