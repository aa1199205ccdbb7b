use Rattle.std.proofs.Common.{◌≡◌, ℕ, zero, suc, ◌≤◌, arith, List, [], ◌∷◌, length, None, refl}
use Rattle.zone_guard.specs.Counted.{item_at}
use Rattle.zone_guard.specs.declared.found.Finding.{Finding}
use Rattle.zone_guard.proofs.counts.item_at.Goals as goal

none_at : (place : ℕ) (found : List Finding) → length found ≤ place → None ≡ item_at place found
none_at place [] ended = refl
none_at zero (f ∷ found) ended = absurd (omega arith)
none_at (suc place) (f ∷ found) ended = none_at place found (omega arith)

pub returns : goal.returns
returns c = none_at c.args.place c.args.found.now c.if-place-found.false
