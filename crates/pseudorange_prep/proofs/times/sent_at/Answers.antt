use Rattle.std.proofs.Common.{arith}
use Rattle.std.specs.Prelude.{◌-ℤ◌}
use Rattle.std.proofs.lemmas.Int.{ints}
use Rattle.pseudorange_prep.proofs.WidthLemmas.{sent_way, before_tag, before_width}
use Rattle.pseudorange_prep.proofs.times.sent_at.Goals as goal

pub returns-clause-holds : goal.returns-clause-holds
returns-clause-holds c p v f n =
    before_tag c.args.tag _ _ _ _ v (c.over_light-way.ensures.holds p (c.args.tag -ℤ v) f (sent_way c.args.tag p v n)) (omega (arith, ints)) (omega (arith, ints))

pub returns-clause-width : goal.returns-clause-width
returns-clause-width c f = before_width c.args.tag _ _ _ _ 8 (c.over_light-way.ensures.width f) (omega (arith, ints)) (omega (arith, ints))
