use Rattle.lines.proofs.SentBytes.{written_part}
use Rattle.lines.proofs.write_bytes.Goals as goal

pub returns : goal.returns
returns c = written_part c.args.bytes.now c.args.from c.args.new.now c.copy_from_slice.new.self c.copy_from_slice.ensures.after
