use Rattle.std.proofs.Common.{refl}
use Rattle.cover_run.proofs.MakingLemmas.{makes_known}
use Rattle.cover_run.proofs.top.obey_with.Goals as goal

pub returns-in-Make-clause-known : goal.returns-in-Make-clause-known
returns-in-Make-clause-known g c =
    makes_known c.args.limits.now.log _ _ _ _ _ c.run_make.result c.run_make.ensures

pub returns-in-Make-clause-obeys : goal.returns-in-Make-clause-obeys
returns-in-Make-clause-obeys g c = rw c.in-Make.is (c.run_make.ensures, refl)

pub returns-in-Guard-clause-obeys : goal.returns-in-Guard-clause-obeys
returns-in-Guard-clause-obeys g c = rw c.in-Guard.is c.run_guard.ensures

pub returns-in-Solve-clause-obeys : goal.returns-in-Solve-clause-obeys
returns-in-Solve-clause-obeys g c = rw c.in-Solve.is c.run_solve.ensures

pub returns-in-Track-clause-obeys : goal.returns-in-Track-clause-obeys
returns-in-Track-clause-obeys g c = rw c.in-Track.is c.run_track.ensures
