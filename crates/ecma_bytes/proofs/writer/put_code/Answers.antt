use Rattle.ecma_bytes.specs.Bytes.{pen_bytes}
use Rattle.ecma_bytes.proofs.Spelling.{decoded_after}
use Rattle.ecma_bytes.proofs.Trips.{reads_as_character}
use Rattle.ecma_bytes.proofs.writer.put_code.Goals as goal

pub returns-clause-read : goal.returns-clause-read
returns-clause-read c = reads_as_character c.args.pen c.args.character c.args.attributes _ c.character_code.ensures

pub returns-clause-decoded : goal.returns-clause-decoded
returns-clause-decoded c = decoded_after (pen_bytes c.args.pen c.args.attributes) _ c.args.character c.character_code.ensures
