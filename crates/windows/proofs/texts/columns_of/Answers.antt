use Rattle.std.proofs.Common.{◌≡◌, false, get_or, sym, arith, refl}
use Rattle.std.proofs.lemmas.List.Folds.{list_any_at}
use Rattle.std.proofs.lemmas.Grind.{common_steps}
use Rattle.windows.specs.TextColumns.{takes_no_column}
use Rattle.windows.proofs.TextWidths.{two_columns_at_most, some_column}
use Rattle.windows.proofs.texts.columns_of.Goals as goal

pub returns-in-Zero : goal.returns-in-Zero
returns-in-Zero c =
    list_any_at takes_no_column c.args.text.now c.loop-character.character-index 0 c.loop-character-test.true (rw (sym c.of.ensures) (rw c.in-Zero.is refl))

pub loop-character-preserved : goal.loop-character-preserved
loop-character-preserved c =
    let some : takes_no_column (get_or c.args.text.now c.loop-character.character-index 0) ≡ false = rw (sym c.of.ensures) (some_column c.of.result c.in_default.not-Zero) in
    let few = two_columns_at_most c.of.result in
    grind (arith, common_steps)
