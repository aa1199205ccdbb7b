use Rattle.std.proofs.Common.{refl}
use Rattle.grid_model.proofs.IntervalLemmas.{max_within, min_within}
use Rattle.zone_guard.proofs.AnswerLemmas.{ends_ordered, greater_end, lesser_end}
use Rattle.zone_guard.proofs.answers.shared.Goals as goal

pub invariant_of-result-clause-x_ordered : goal.invariant_of-result-clause-x_ordered
invariant_of-result-clause-x_ordered c =
    let a = c.args.part.now in
    let b = c.args.zone.now in
    rw (greater_end a.lo.x b.lo.x _ a.lo_within.0 b.lo_within.0 c.max.ensures.value, lesser_end a.hi.x b.hi.x _ a.hi_within.0 b.hi_within.0 c.min.ensures.value)
    (ends_ordered _ _ _ _ a.x_ordered b.x_ordered c.requires.x.low c.requires.x.high)

pub invariant_of-result-clause-y_ordered : goal.invariant_of-result-clause-y_ordered
invariant_of-result-clause-y_ordered c =
    let a = c.args.part.now in
    let b = c.args.zone.now in
    rw (greater_end a.lo.y b.lo.y _ a.lo_within.1 b.lo_within.1 c.max-2.ensures.value, lesser_end a.hi.y b.hi.y _ a.hi_within.1 b.hi_within.1 c.min-2.ensures.value)
    (ends_ordered _ _ _ _ a.y_ordered b.y_ordered c.requires.y.low c.requires.y.high)

pub invariant_of-result-clause-z_ordered : goal.invariant_of-result-clause-z_ordered
invariant_of-result-clause-z_ordered c =
    let a = c.args.part.now in
    let b = c.args.zone.now in
    rw (greater_end a.lo.z b.lo.z _ a.lo_within.2 b.lo_within.2 c.max-3.ensures.value, lesser_end a.hi.z b.hi.z _ a.hi_within.2 b.hi_within.2 c.min-3.ensures.value)
    (ends_ordered _ _ _ _ a.z_ordered b.z_ordered c.requires.z.low c.requires.z.high)

pub invariant_of-result-clause-lo_within : goal.invariant_of-result-clause-lo_within
invariant_of-result-clause-lo_within c =
    let a = c.args.part.now in
    let b = c.args.zone.now in
    rw (
      greater_end a.lo.x b.lo.x _ a.lo_within.0 b.lo_within.0 c.max.ensures.value,
      greater_end a.lo.y b.lo.y _ a.lo_within.1 b.lo_within.1 c.max-2.ensures.value,
      greater_end a.lo.z b.lo.z _ a.lo_within.2 b.lo_within.2 c.max-3.ensures.value,
    )
    (max_within _ _ _ a.lo_within.0 b.lo_within.0, max_within _ _ _ a.lo_within.1 b.lo_within.1, max_within _ _ _ a.lo_within.2 b.lo_within.2)

pub invariant_of-result-clause-hi_within : goal.invariant_of-result-clause-hi_within
invariant_of-result-clause-hi_within c =
    let a = c.args.part.now in
    let b = c.args.zone.now in
    rw (
      lesser_end a.hi.x b.hi.x _ a.hi_within.0 b.hi_within.0 c.min.ensures.value,
      lesser_end a.hi.y b.hi.y _ a.hi_within.1 b.hi_within.1 c.min-2.ensures.value,
      lesser_end a.hi.z b.hi.z _ a.hi_within.2 b.hi_within.2 c.min-3.ensures.value,
    )
    (min_within _ _ _ a.hi_within.0 b.hi_within.0, min_within _ _ _ a.hi_within.1 b.hi_within.1, min_within _ _ _ a.hi_within.2 b.hi_within.2)

pub returns : goal.returns
returns c =
    let a = c.args.part.now in
    let b = c.args.zone.now in
    rw (
      greater_end a.lo.x b.lo.x _ a.lo_within.0 b.lo_within.0 c.max.ensures.value,
      greater_end a.lo.y b.lo.y _ a.lo_within.1 b.lo_within.1 c.max-2.ensures.value,
      greater_end a.lo.z b.lo.z _ a.lo_within.2 b.lo_within.2 c.max-3.ensures.value,
      lesser_end a.hi.x b.hi.x _ a.hi_within.0 b.hi_within.0 c.min.ensures.value,
      lesser_end a.hi.y b.hi.y _ a.hi_within.1 b.hi_within.1 c.min-2.ensures.value,
      lesser_end a.hi.z b.hi.z _ a.hi_within.2 b.hi_within.2 c.min-3.ensures.value,
    ) refl
