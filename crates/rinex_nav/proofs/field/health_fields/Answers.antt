use Rattle.rinex_nav.proofs.field.health_fields.Goals as goal

pub returns-in_err-health-clause-none : goal.returns-in_err-health-clause-none
returns-in_err-health-clause-none c = rw c.from_residual.ensures (λ v is. c.in_err-health.ensures.none is.0 is.1)

pub returns-in_err-delay-clause-none : goal.returns-in_err-delay-clause-none
returns-in_err-delay-clause-none c = rw c.from_residual-in_err-delay.ensures (λ v is. c.in_err-delay.ensures.none v.1 (rw (c.delay_column.ensures.value, c.is_inav-inav.ensures) is.3))
