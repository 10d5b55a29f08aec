use Rattle.std.proofs.Common.{◌≡◌, ◌≤◌, Option, sym, ap, ◌∙◌, arith}
use Rattle.places.specs.declared.Spot.{Spot}
use Rattle.emulator.specs.Emulators.{screen_of}
use Rattle.ecma_bytes.specs.Bytes.{move_bytes}
use Rattle.ecma_bytes.specs.Codes.{code_bytes}
use Rattle.ecma48.specs.Sizes.{is_usable}
use Rattle.ecma48.proofs.Operating.{usable_since, usable, moved, read_plain, code_short, on_screen}
use Rattle.ecma48.proofs.EcmaFaceFace.move_to.Goals as goal

pub returns-clause-done : goal.returns-clause-done
returns-clause-done c =
    let f = c.args.self.now in
    let g = c.say.new.self in
    let s = screen_of f.emulator in
    let row = c.args.to.row in
    let column = c.args.to.column in
    let code = c.move_code.result in
    let bytes : code_bytes code ≡ move_bytes s.cursor row column = c.move_code.ensures.bytes ∙ ap (λ (o : Option Spot). move_bytes o row column) c.cursor-cursor.ensures in
    let fit = usable_since (is_usable s) s.rows s.columns row column c.requires.on in
    let size = usable s fit.0 in
    let tall : s.rows ≤ 9999 = omega (arith, size.tall) in
    let wide : s.columns ≤ 9999 = omega (arith, size.wide) in
    let screen = read_plain f g (code_bytes code) c.say.ensures.read fit.0 ∙ c.move_code.ensures.read s (sym c.cursor-cursor.ensures) (on_screen f.emulator) fit.1 fit.2 tall wide in
    record {
      shown = moved s (screen_of g.emulator) row column fit.0 screen;
      sent = rw (sym bytes) c.say.ensures.sent;
      short = rw (sym bytes) (code_short code);
    }
