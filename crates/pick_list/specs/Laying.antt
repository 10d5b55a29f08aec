-- The cells that characters make, and the row into which they are laid.
use Rattle.std.specs.Prelude.{ℕ, Bool, List, ◌++◌, length, take, replicate, count_by, ◌==◌}
use Rattle.cells.specs.Kinds.{Layer, Glyph}
use Rattle.cell_memory.specs.Texts
pub use Rattle.cell_memory.specs.Texts.{cells_in}

-- the cells that a character makes without attributes
abbrev pub cells_for : {C : Type 0} → Glyph C → ℕ → List C
cells_for g character = Texts.cells_for g 0 character

-- and those of a text, one character after another
abbrev pub cells_of : {C : Type 0} → Glyph C → List ℕ → List C
cells_of g text = Texts.cells_of g 0 text

abbrev pub makes_nothing : {C : Type 0} → Glyph C → ℕ → Bool
makes_nothing g character = length (cells_for g character) == 0

-- how many characters of a text make nothing
abbrev pub nothing_of : {C : Type 0} → Glyph C → List ℕ → ℕ
nothing_of g text = count_by (makes_nothing g) text

-- a row of n columns: the cells of the text, then blanks, cut at the row's end
abbrev pub laid_row : {C : Type 0} → Layer C → Glyph C → ℕ → List ℕ → List C
laid_row l g n text = take n (cells_of g text ++ replicate n l.blank)
