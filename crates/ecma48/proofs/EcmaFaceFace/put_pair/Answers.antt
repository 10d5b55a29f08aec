use Rattle.std.proofs.Common.{◌+◌, ◌≤◌, [], ◌∷◌, ap, arith}
use Rattle.std.proofs.lemmas.Bool.{cond-true}
use Rattle.text_cells.proofs.Making.{pair_made}
use Rattle.emulator.specs.Emulators.{screen_of}
use Rattle.emulator.specs.Screens.{shows}
use Rattle.ecma48.specs.Sizes.{is_usable}
use Rattle.ecma48.proofs.Operating.{cursor_known, spoken}
use Rattle.ecma48.proofs.EcmaFaceFace.put_pair.Goals as goal

pub say_character-requires-clause-small : goal.say_character-requires-clause-small
say_character-requires-clause-small c = (pair_made c.args.left c.args._right c.requires.put.belong).shown.to

pub returns-clause-done : goal.returns-clause-done
returns-clause-done c =
    let f = c.args.self.now in
    let at = c.args._at in
    let left = c.args.left in
    let s = screen_of f.emulator in
    let made = pair_made left c.args._right c.requires.put.belong in
    let said = c.say_character.ensures in
    let known = cursor_known (is_usable s) s.cursor at c.requires.put.cursor_known in
    let inside : at.column + 2 ≤ s.columns = omega (arith, rw (cond-true (is_usable s) s.columns 0 known.0) at c.requires.put.inside) in
    record {
      shown = spoken f c.say_character.new.self at (left ∷ c.args._right ∷ []) left.character left.attributes c.requires.put.cursor_known said.read said.shown made.attributes made.shown inside (λ x. ap (shows x) made.made);
      sent = said.sent;
      short = said.short;
    }
