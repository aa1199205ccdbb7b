use Rattle.std.proofs.Common.{ℕ, ◌≡◌, ◌/◌, ◌<◌}
use Rattle.subpaving.specs.Groups.{IsIn}
use Rattle.subpaving.proofs.live.Live.all_inside.Given as goal

abbrev pub invariant-groups : goal.invariant-groups
invariant-groups l = (l.self.boxes.items ≡ l.fn.self.boxes.items)
    × ((id : ℕ) → id / 512 < l.group → IsIn l.whole l.fn.self.boxes.items id)
