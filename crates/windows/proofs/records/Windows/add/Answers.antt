use Rattle.std.proofs.Common.{◌≡◌, ℕ, ◌+◌, ◌<◌, ◌≤◌, true, List, length, get_or, set, ◌∙◌, inl, inr, arith}
use Rattle.std.proofs.lemmas.List.{length-set, get_or-set_same, get_or-set_other}
use Rattle.std.proofs.lemmas.Bool.{cases_eq}
use Rattle.areas.specs.Addresses.{area, ends_below}
use Rattle.areas.specs.declared.Area.{Area}
use Rattle.areas.proofs.AreaEnds.{ends_later}
use Rattle.windows.proofs.records.Windows.add.Goals as goal

-- one area more, in more cells
add_inside : (areas : List Area) (count taken more : ℕ) (new : Area) → count < length areas → taken ≤ more → ((window : ℕ) → window < count → ends_below taken (get_or areas window (area 0 0 0 0)) ≡ true) → ends_below more new ≡ true → (window : ℕ) → window < count + 1 → ends_below more (get_or (set areas count new) window (area 0 0 0 0)) ≡ true
add_inside areas count taken more new room h inside e window b =
    elim (cases_eq window count) [
      | inl k ↦ rw (k, get_or-set_same areas count new (area 0 0 0 0) room) e
      | inr k ↦ rw (get_or-set_other areas count window new (area 0 0 0 0) k) (ends_later taken more (get_or areas window (area 0 0 0 0)) h (inside window (omega arith)))
    ]

pub invariant_of-self : goal.invariant_of-self
invariant_of-self c =
    let w = c.args.self.now in
    record { sixteen = length-set w.areas w.count c.args.new ∙ w.sixteen; few = omega arith; enough = omega arith; short = w.short; inside = add_inside w.areas w.count w.taken c.args.taken c.args.new (omega arith) c.requires.more w.inside c.requires.inside }
