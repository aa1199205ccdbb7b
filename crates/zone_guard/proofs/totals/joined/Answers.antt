use Rattle.zone_guard.proofs.ReachLemmas.{extents_joined}
use Rattle.zone_guard.proofs.totals.joined.Goals as goal

pub returns-clause-whole : goal.returns-clause-whole
returns-clause-whole c a boxes more i j = rw c.join.ensures (extents_joined a boxes more c.args.before.now c.args.found.now i j)
