use Rattle.std.proofs.Common.{arith}
use Rattle.std.proofs.lemmas.Int.{ints}
use Rattle.sat_clock.proofs.ClockLemmas.{ephemeris_ends, ephemeris_between}
use Rattle.sat_clock.proofs.times.since_ephemeris.Goals as goal

pub returns-clause-holds : goal.returns-clause-holds
returns-clause-holds c x toe p q =
    let el = c.args.el.now in
    ephemeris_between c.args.tsv.lo c.args.tsv.hi el.week_start el.toe_week.lo el.toe_week.hi _ _ x toe (omega (arith, ints)) (omega (arith, ints)) p q

pub returns-clause-ends : goal.returns-clause-ends
returns-clause-ends c =
    let el = c.args.el.now in
    ephemeris_ends c.args.tsv.lo c.args.tsv.hi el.week_start el.toe_week.lo el.toe_week.hi _ _ c.args.tsv.ordered el.toe_week.ordered el.toe_within.narrow c.requires.near.low c.requires.near.high (omega (arith, ints)) (omega (arith, ints))
