use Rattle.std.proofs.Common.{◌*◌, ◌^◌, ◌+◌, lit≤, arith}
use Rattle.grid_model.proofs.EndsLemmas.{wider_ends}
use Rattle.sat_clock.specs.ClockSizes.{correction_size}
use Rattle.code_simulation.specs.SearchSizes.{code_amount, corrected_amount}
use Rattle.code_simulation.proofs.residuals.corrected_code.Goals as goal

pub returns-clause-ends : goal.returns-clause-ends
returns-clause-ends c = λ w e.
    wider_ends (code_amount + (15 * 10 ^ 12 + 2)) corrected_amount (w + 6) (w + 6) _ _ (lit≤ tt) (omega arith)
    (c.corrected.ensures.ends code_amount w correction_size 64 (15 * 10 ^ 12) 2 e c.requires.dt_ends (lit≤ tt) (lit≤ tt))
