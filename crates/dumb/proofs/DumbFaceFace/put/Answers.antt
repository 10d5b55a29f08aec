use Rattle.std.proofs.Common.{[], ◌∷◌, arith}
use Rattle.dumb.proofs.Sending.{takes, puts, put_done}
use Rattle.dumb.proofs.DumbFaceFace.put.Goals as goal

pub returns-clause-done : goal.returns-clause-done
returns-clause-done c =
    let f = c.args.self.now in
    let put = puts f c.args.at c.requires.put.cursor_known c.put.result c.put.new.self c.args.cell c.put.ensures.refusal c.put.ensures.effect in
    record {
      shown = put_done f c.args.at c.requires.put.cursor_known _ c.args.cell put c.moved_on-after.ensures;
      sent = takes c.send.result c.args.line.now c.send.new.self (c.args.cell.byte ∷ []) c.requires.room (omega arith) c.send.ensures.refusal c.send.ensures.effect;
      short = omega arith;
    }
