use Rattle.std.proofs.Common.{map}
use Rattle.paving_log.specs.Values.{block_of}
use Rattle.paving_log.proofs.NumberingLemmas.{TakesSoFar, left_over}
use Rattle.paving_log.proofs.read.blocks.Given as goal

-- the blocks so far were taken from the front
abbrev pub invariant-each : goal.invariant-each
invariant-each l = TakesSoFar l.fn.form l.fn.lines (map block_of l.epochs.items) l.next l.left

abbrev pub decreases-each : goal.decreases-each
decreases-each l = left_over l.next l.left
