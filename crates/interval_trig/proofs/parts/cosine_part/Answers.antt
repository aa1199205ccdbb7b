use Rattle.interval_trig.proofs.HornerSteps.{one_holds}
use Rattle.interval_trig.proofs.parts.cosine_part.Goals as goal

pub returns-clause-holds : goal.returns-clause-holds
returns-clause-holds c y s = c.step.ensures.holds y _ _ s (c.step-p4.ensures.holds y _ _ s (c.step-p6.ensures.holds y _ _ s (c.step-p8.ensures.holds y _ _ s (c.step-p10.ensures.holds y _ _ s (c.step-p12.ensures.holds y _ _ s (c.step-p14.ensures.holds y _ _ s (c.step-p16.ensures.holds y 1 1 s one_holds)))))))
