use Rattle.std.proofs.Common.{arith, ◌≡◌, ◌*◌, ◌/◌, ◌^◌, lit≤}
use Rattle.interval_trig.specs.NestedSums.{fine}
use Rattle.interval_trig.proofs.HornerSteps.{step_holds, step_width, below_half}
use Rattle.interval_trig.proofs.parts.step.Goals as goal

pub returns-clause-holds : goal.returns-clause-holds
returns-clause-holds c y f e s p =
    let h = step_holds fine (10 ^ 14) c.args.d c.args.y.lo c.args.y.hi c.args.part.lo c.args.part.hi y f e (lit≤ tt) (omega arith) c.requires.y_size c.requires.part_size c.args.y.ordered c.args.part.ordered
    (below_half fine c.args.d c.args.y.hi c.args.part.hi c.requires.d_low c.requires.y_size c.requires.part_size (lit≤ tt)) s.low s.high p.low p.high in
    let most : c.over_of-most.result ≡ c.args.y.hi * c.args.part.hi / (c.args.d * fine) = c.over_of-most.ensures.value in
    let least : c.over_of-least.result ≡ c.args.y.lo * c.args.part.lo / (c.args.d * fine) = c.over_of-least.ensures.value in
    rw (most, least) (record { low = h.0; high = h.1 })

pub returns-clause-width : goal.returns-clause-width
returns-clause-width c a b =
    let most : c.over_of-most.result ≡ c.args.y.hi * c.args.part.hi / (c.args.d * fine) = c.over_of-most.ensures.value in
    let least : c.over_of-least.result ≡ c.args.y.lo * c.args.part.lo / (c.args.d * fine) = c.over_of-least.ensures.value in
    rw (most, least) (step_width fine c.args.d c.args.y.lo c.args.y.hi c.args.part.lo c.args.part.hi (lit≤ tt) (omega arith) (omega arith) b c.args.y.ordered c.requires.part_size c.args.part.ordered
    (below_half fine c.args.d c.args.y.hi c.args.part.hi c.requires.d_low c.requires.y_size c.requires.part_size (lit≤ tt)))
