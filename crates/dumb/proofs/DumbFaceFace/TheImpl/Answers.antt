use Rattle.std.proofs.Common.{false, refl}
use Rattle.std.proofs.lemmas.Bool.{both_ways}
use Rattle.dumb.proofs.DumbFaceFace.TheImpl.Goals as goal

-- no two bytes belong together
pub put_pair-tells : goal.put_pair-tells
put_pair-tells g c = absurd (both_ways false refl c.requires.put.belong)
