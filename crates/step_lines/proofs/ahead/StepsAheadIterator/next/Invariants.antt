use Rattle.std.proofs.Common.{◌≡◌, length}
use Rattle.step_lines.specs.Steps.{steps_left}
use Rattle.step_lines.proofs.ahead.StepsAheadIterator.next.Given as goal

-- other lines tell no step
abbrev pub invariant-lines : goal.invariant-lines
invariant-lines l = steps_left l.self ≡ steps_left l.fn.self

abbrev pub decreases-lines : goal.decreases-lines
decreases-lines l = length l.self.text.now
