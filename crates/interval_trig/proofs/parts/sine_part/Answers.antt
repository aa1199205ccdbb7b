use Rattle.interval_trig.proofs.HornerSteps.{one_holds}
use Rattle.interval_trig.proofs.parts.sine_part.Goals as goal

pub returns-clause-holds : goal.returns-clause-holds
returns-clause-holds c y s = c.step.ensures.holds y _ _ s (c.step-p5.ensures.holds y _ _ s (c.step-p7.ensures.holds y _ _ s (c.step-p9.ensures.holds y _ _ s (c.step-p11.ensures.holds y _ _ s (c.step-p13.ensures.holds y _ _ s (c.step-p15.ensures.holds y 1 1 s one_holds))))))
