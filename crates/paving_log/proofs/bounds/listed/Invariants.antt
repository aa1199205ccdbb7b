use Rattle.std.proofs.Common.{length, map}
use Rattle.paving_log.specs.Values.{bound_value}
use Rattle.paving_log.proofs.BoundLemmas.{TakesBounds}
use Rattle.paving_log.proofs.bounds.listed.Given as goal

-- the bounds so far were taken from the front
abbrev pub invariant-bounds : goal.invariant-bounds
invariant-bounds l = TakesBounds l.fn.form l.fn.lines (map bound_value l.bounds.items) l.left

abbrev pub decreases-bounds : goal.decreases-bounds
decreases-bounds l = length l.left.rest.now
