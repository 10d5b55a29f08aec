use Rattle.ecma48.proofs.Operating.{screen_sound}
use Rattle.ecma48.proofs.EcmaFaceFace.size.Goals as goal

pub returns-then-is_usable-clause-sound : goal.returns-then-is_usable-clause-sound
returns-then-is_usable-clause-sound c = screen_sound c.args.self.now.emulator
