use Rattle.std.proofs.Common.{◌≡◌, ℕ, ◌<◌, get_or, map, None}
use Rattle.subpaving.specs.LiveValues.{box_option}
use Rattle.subpaving.proofs.live.Live.is_none_live.Given as goal

abbrev pub invariant-loop-found : goal.invariant-loop-found
invariant-loop-found l = (id : ℕ) → id < l.found-index → get_or (map box_option l.found-items) id None ≡ None
