use Rattle.zone_guard.proofs.FoundLemmas.{planes_all, planes_more}
use Rattle.zone_guard.proofs.bounds.half_spaces_of.Goals as goal

pub loop-bound-preserved : goal.loop-bound-preserved
loop-bound-preserved c = planes_more c.args.bounds.now c.loop-bound.bound-index c.bound-item.result c.loop-bound.found.items c.push.new.self.items c.half_space_of.result
    c.loop-bound-test.true c.bound-item.is c.loop-bound.invariant c.half_space_of.ensures c.in_ok-push.ensures.items

pub returns : goal.returns
returns c = planes_all c.args.bounds.now c.loop-bound.bound-index c.loop-bound.found.items c.loop-bound-test.false c.loop-bound.invariant
