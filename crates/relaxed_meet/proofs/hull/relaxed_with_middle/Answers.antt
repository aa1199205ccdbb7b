use Rattle.std.proofs.Common.{◌≡◌, arith, to_z, of_z, w64, refl}
use Rattle.std.proofs.lemmas.Int.{ints}
use Rattle.relaxed_meet.proofs.BetweenLemmas.{are_extremes, in_relaxed, none_relaxed, hull_from}
use Rattle.relaxed_meet.proofs.hull.relaxed_with_middle.Goals as goal

pub invariant_of-result : goal.invariant_of-result
invariant_of-result c =
    let greatest = rw (c.deref-5.ensures.0, c.deref-6.ensures.0) at c.in-Some-Some.ensures' in
    let least = rw (c.deref-3.ensures.0, c.deref-4.ensures.0) at c.in-Some-Some.ensures in
    record { ordered = omega (arith, ints, greatest.1 c.in-Some-Some.lo least.0) }

pub returns-in-Some-Some-clause-none : goal.returns-in-Some-Some-clause-none
returns-in-Some-Some-clause-none c =
    let e = are_extremes c.args.spans.now c.args.need _ _ _ c.from.ensures (omega (arith, c.requires)) (omega (arith, c.requires)) c.extremes.ensures.lows c.extremes.ensures.highs in
    let least = rw (c.deref-3.ensures.0, c.deref-4.ensures.0) at c.in-Some-Some.ensures in
    (λ none. absurd cc, λ empty. absurd (empty c.in-Some-Some.lo (in_relaxed c.args.spans.now c.args.need _ _ c.in-Some-Some.lo e least.0)))

pub returns-in-Some-Some-clause-some : goal.returns-in-Some-Some-clause-some
returns-in-Some-Some-clause-some c =
    let e = are_extremes c.args.spans.now c.args.need _ _ _ c.from.ensures (omega (arith, c.requires)) (omega (arith, c.requires)) c.extremes.ensures.lows c.extremes.ensures.highs in
    let lo : to_z w64 (of_z w64 c.in-Some-Some.lo) ≡ c.in-Some-Some.lo = omega (arith, ints) in
    let hi : to_z w64 (of_z w64 c.in-Some-Some.hi) ≡ c.in-Some-Some.hi = omega (arith, ints) in
    rw (lo, hi)
    (hull_from c.args.spans.now c.args.need _ _ _ _ e
    (rw (c.deref-3.ensures.0, c.deref-4.ensures.0) at c.in-Some-Some.ensures)
    (rw (c.deref-5.ensures.0, c.deref-6.ensures.0) at c.in-Some-Some.ensures'))

pub returns-in_default-2-clause-none : goal.returns-in_default-2-clause-none
returns-in_default-2-clause-none c =
    let e = are_extremes c.args.spans.now c.args.need _ _ _ c.from.ensures (omega (arith, c.requires)) (omega (arith, c.requires)) c.extremes.ensures.lows c.extremes.ensures.highs in
    (λ same. none_relaxed c.args.spans.now c.args.need _ _ e (rw (c.deref-3.ensures.0, c.deref-4.ensures.0, c.in_default.is-0) at c.least_between.ensures), λ empty. refl)
