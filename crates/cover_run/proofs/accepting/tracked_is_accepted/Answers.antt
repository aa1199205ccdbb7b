use Rattle.cover_run.proofs.AcceptLemmas.{track_not_refused}
use Rattle.cover_run.proofs.Headline.{track_accepted, track_certain}
use Rattle.cover_run.proofs.accepting.tracked_is_accepted.Goals as goal

pub returns-clause-fault : goal.returns-clause-fault
returns-clause-fault g c = track_not_refused

pub returns-clause-accepted : goal.returns-clause-accepted
returns-clause-accepted g c = λ limits names before solved kept after a b p q s runs.
    track_accepted limits names before solved kept after _ _ s runs

pub returns-clause-certain : goal.returns-clause-certain
returns-clause-certain g c = λ limits names before solved kept after a b p q s runs.
    track_certain limits names before solved kept after _ _ s runs
