use Rattle.interval_trig.proofs.CircleLaw.{sine_and_cosine}
use Rattle.interval_trig.proofs.circle.circle_law.Goals as goal

pub returns : goal.returns
returns c x s d h u v = sine_and_cosine x s d u v
