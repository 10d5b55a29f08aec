-- Every drawable cell of either kind has a character that a text can have.
use Rattle.std.proofs.Common.{arith}
use Rattle.std.proofs.lemmas.Bool.Decides.{nat_tests}
use Rattle.text_cells.specs.TextCells.{text_glyph}
use Rattle.byte_cells.specs.ByteCells.{byte_glyph}
use Rattle.pick_list.specs.Showing.{HasCharacters}

pub of_text : HasCharacters text_glyph (λ c. c.character)
of_text c e = grind (arith, nat_tests)

pub of_bytes : HasCharacters byte_glyph (λ c. c.byte)
of_bytes c e = grind (arith, nat_tests)
