use Rattle.log_writer.specs.Found.{bound_value}
use Rattle.log_writer.proofs.AlongLemmas.{some_sum, wrote_none, wrote_one}
use Rattle.log_writer.proofs.bounds.put_along.Goals as goal

pub put_bound-requires : goal.put_bound-requires
put_bound-requires g c = record { some = some_sum _ _ _ (bound_value c.in-Some.bound) c.in-Some.ensures.shown }

pub returns-in-Some-clause-written : goal.returns-in-Some-clause-written
returns-in-Some-clause-written g c =
    wrote_one _ _ _ _ (bound_value c.in-Some.bound) _ _ _ _ _ c.put_bound.result c.requires.forms c.in-Some.ensures.direction (rw c.deref.ensures.0 at c.in-Some.ensures.shown) c.put_bound.ensures.few c.narrow.ensures.hull c.put_bound.ensures.written

pub returns-in-None-clause-written : goal.returns-in-None-clause-written
returns-in-None-clause-written g c = wrote_none _ _ _ _ _ _ _
