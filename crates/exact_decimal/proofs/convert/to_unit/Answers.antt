use Rattle.std.proofs.Common.{refl}
use Rattle.exact_decimal.proofs.Units.{not_both, signed_ends, times_signed}
use Rattle.exact_decimal.proofs.convert.to_unit.Goals as goal

pub returns-in-Some-clause-floor : goal.returns-in-Some-clause-floor
returns-in-Some-clause-floor c =
    let ends = signed_ends c.args.decimal.digits _ _ _ _ c.in-Some.floor c.in-Some.ceiling _ c.is_negative.ensures c.in-Some.ensures.1 c.signed.ensures.low c.signed.ensures.high in
    ends.floor

pub returns-in-Some-clause-ceiling : goal.returns-in-Some-clause-ceiling
returns-in-Some-clause-ceiling c =
    let ends = signed_ends c.args.decimal.digits _ _ _ _ c.in-Some.floor c.in-Some.ceiling _ c.is_negative.ensures c.in-Some.ensures.1 c.signed.ensures.low c.signed.ensures.high in
    ends.ceiling

pub returns-in-Some-clause-range : goal.returns-in-Some-clause-range
returns-in-Some-clause-range c = (
  λ e. absurd cc,
  λ passes. absurd (not_both _ _ c.args.decimal.digits _ c.in-Some.ensures.0 passes),
)

pub returns-in-None-clause-range : goal.returns-in-None-clause-range
returns-in-None-clause-range c = (λ e. rw (times_signed c.args.decimal.digits _) c.in-None.ensures, λ passes. refl)
