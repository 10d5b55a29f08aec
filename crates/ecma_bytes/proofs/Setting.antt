-- The attributes that a change of the pen sets, one after another.
use Rattle.std.proofs.Common.{◌≡◌, ℕ, ◌+◌, ◌<◌, List, ◌++◌, length, get_or, drop, sym, ap, ◌∙◌}
use Rattle.std.proofs.lemmas.List.{append_assoc, at_drop_more}
use Rattle.ecma_bytes.specs.Bytes.{attribute_bytes, set_bytes}

-- one more of the digits: from b, which those that are left complete, to c
pub set_more : (attributes : ℕ) (digits : List (ℕ × ℕ)) (b c all : List ℕ) (i : ℕ) → i < length digits → c ≡ b ++ attribute_bytes attributes (get_or digits i (0, 0)).0 (get_or digits i (0, 0)).1 → b ++ set_bytes attributes (drop i digits) ≡ all → c ++ set_bytes attributes (drop (i + 1) digits) ≡ all
set_more attributes digits b c all i h said left =
    rw (said, append_assoc) (ap (λ (bytes : List ℕ). b ++ bytes) (sym (at_drop_more (set_bytes attributes) digits i (0, 0) h)) ∙ left)
