use Rattle.std.proofs.Common.{◌∙◌}
use Rattle.broadcast_orbit.specs.OrbitSizes.{orbit_reach, time_width}
use Rattle.broadcast_orbit.proofs.Chains.{after_held, after_ends}
use Rattle.broadcast_orbit.proofs.places.after.Goals as goal

pub returns-clause-holds : goal.returns-clause-holds
returns-clause-holds c time toe p q = after_held c.args.t.lo c.args.t.hi c.args.el.now.week_start _ _ _ _ _ _ time toe (c.of_wide.ensures.low ∙ c.ephemeris_time.ensures.low) (c.of_wide.ensures.high ∙ c.ephemeris_time.ensures.high) c.minus.ensures.low c.minus.ensures.high p q

pub returns-clause-narrow : goal.returns-clause-narrow
returns-clause-narrow c h = after_ends c.args.t.lo c.args.t.hi c.args.el.now.week_start _ _ _ _ _ _ orbit_reach time_width 1 c.args.t.ordered c.args.el.now.toe_week.ordered (c.of_wide.ensures.low ∙ c.ephemeris_time.ensures.low) (c.of_wide.ensures.high ∙ c.ephemeris_time.ensures.high) c.minus.ensures.low c.minus.ensures.high c.requires.from c.requires.to c.args.el.now.toe_within.narrow h
