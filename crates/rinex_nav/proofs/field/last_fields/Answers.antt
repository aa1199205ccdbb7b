use Rattle.rinex_nav.proofs.field.last_fields.Goals as goal

pub returns-in_err-second-clause-none : goal.returns-in_err-second-clause-none
returns-in_err-second-clause-none c = rw c.from_residual.ensures (λ v is. c.in_err-second.ensures.none v.0 is.0)

pub returns-in_err-third-clause-none : goal.returns-in_err-third-clause-none
returns-in_err-third-clause-none c = rw c.from_residual-in_err-third.ensures (λ v is. c.in_err-third.ensures.none v.1 is.1)

pub returns-in_err-fourth-clause-none : goal.returns-in_err-fourth-clause-none
returns-in_err-fourth-clause-none c = rw c.from_residual-in_err-fourth.ensures (λ v is. c.in_err-fourth.ensures.none v.2 is.2)
