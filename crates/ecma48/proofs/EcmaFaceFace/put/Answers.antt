use Rattle.std.proofs.Common.{◌+◌, ◌≤◌, [], ◌∷◌, ap, arith}
use Rattle.text_cells.proofs.Making.{single_made}
use Rattle.emulator.specs.Emulators.{screen_of}
use Rattle.emulator.specs.Screens.{shows}
use Rattle.ecma48.specs.Sizes.{is_usable}
use Rattle.ecma48.proofs.Operating.{cursor_known, on_screen, spoken}
use Rattle.ecma48.proofs.EcmaFaceFace.put.Goals as goal

pub say_character-requires-clause-small : goal.say_character-requires-clause-small
say_character-requires-clause-small c = (single_made c.args.cell c.requires.put.drawable c.requires.put.single).shown.to

pub returns-clause-done : goal.returns-clause-done
returns-clause-done c =
    let f = c.args.self.now in
    let at = c.args._at in
    let cell = c.args.cell in
    let s = screen_of f.emulator in
    let made = single_made cell c.requires.put.drawable c.requires.put.single in
    let said = c.say_character.ensures in
    let known = cursor_known (is_usable s) s.cursor at c.requires.put.cursor_known in
    let on = on_screen f.emulator at known.1 in
    let inside : at.column + 1 ≤ s.columns = omega (arith, on.1) in
    record {
      shown = spoken f c.say_character.new.self at (cell ∷ []) cell.character cell.attributes c.requires.put.cursor_known said.read said.shown made.attributes made.shown inside (λ x. ap (shows x) made.made);
      sent = said.sent;
      short = said.short;
    }
