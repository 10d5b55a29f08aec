-- New bytes written behind those that were sent.
use Rattle.std.proofs.Common.{◌≡◌, ℕ, ◌+◌, ◌-◌, List, ◌++◌, length, take, ap, arith}
use borrow.Rule.Slice.PartMut.{put_mid}
use Rattle.std.proofs.lemmas.List.{drop-drop}
use Rattle.lines.specs.Sending.{written}

-- a part written over, by where it begins and what it now holds
pub written_part : (bytes : List ℕ) (from : ℕ) (new put : List ℕ) → put ≡ new → put_mid from (from + length new - from) bytes put ≡ written bytes from new
written_part bytes from new put e =
    let size : from + length new - from ≡ length new = omega arith in
    rw (size, e) (ap (λ (rest : List ℕ). take from bytes ++ (new ++ rest)) (drop-drop (length new) from bytes))
