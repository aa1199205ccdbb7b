use Rattle.std.proofs.Common.{subst, ap}
use Rattle.std.specs.Prelude.{Option, ℤ}
use Rattle.grid_model.specs.declared.spans.Span.{Span}
use Rattle.sat_rows.specs.Chains.{IsDelay}
use Rattle.sat_rows.proofs.DelayLemmas.{zero_holds, zero_within}
use Rattle.sat_rows.proofs.bounds.delay_over.Goals as goal

pub mapped_span-requires-clause-low_size : goal.mapped_span-requires-clause-low_size
mapped_span-requires-clause-low_size c = c.requires.within.low c.in-Some.span c.in-Some.is

pub mapped_span-requires-clause-high_size : goal.mapped_span-requires-clause-high_size
mapped_span-requires-clause-high_size c = c.requires.within.high c.in-Some.span c.in-Some.is

pub mapped_span-requires-clause-from_origin : goal.mapped_span-requires-clause-from_origin
mapped_span-requires-clause-from_origin c = c.requires.from_origin c.in-Some.span c.in-Some.is

pub returns-in-Some-clause-holds : goal.returns-in-Some-clause-holds
returns-in-Some-clause-holds c p chain delay inside held range_is is =
    c.mapped_span.ensures.holds p chain delay inside held range_is (subst (λ (z : Option Span). IsDelay c.args.layer z p chain delay) c.in-Some.is is)

pub returns-in-None-clause-holds : goal.returns-in-None-clause-holds
returns-in-None-clause-holds c p chain delay inside held range_is is =
    let none = subst (λ (z : Option Span). IsDelay c.args.layer z p chain delay) c.in-None.is is in
    record {
      lo = zero_holds _ _ delay.0 c.one.ensures.low c.one.ensures.high (ap (λ (d : ℤ × ℤ). d.0) none);
      hi = zero_holds _ _ delay.1 c.one-in-None.ensures.low c.one-in-None.ensures.high (ap (λ (d : ℤ × ℤ). d.1) none);
    }

pub returns-in-None-clause-low_small : goal.returns-in-None-clause-low_small
returns-in-None-clause-low_small c n within = record { lo = zero_within _ _ c.one.ensures.low; hi = zero_within _ _ c.one.ensures.high }

pub returns-in-None-clause-high_small : goal.returns-in-None-clause-high_small
returns-in-None-clause-high_small c n within = record { lo = zero_within _ _ c.one-in-None.ensures.low; hi = zero_within _ _ c.one-in-None.ensures.high }

pub returns-in-Some-clause-low_small : goal.returns-in-Some-clause-low_small
returns-in-Some-clause-low_small c n within = c.mapped_span.ensures.low_small n (within.low c.in-Some.span c.in-Some.is)

pub returns-in-Some-clause-high_small : goal.returns-in-Some-clause-high_small
returns-in-Some-clause-high_small c n within = c.mapped_span.ensures.high_small n (within.high c.in-Some.span c.in-Some.is)
