use Rattle.std.proofs.Common.{inl, inr}
use Rattle.std.proofs.lemmas.Bool.{cases_Bool}
use Rattle.subpaving.proofs.live.Live.may_renew.Goals as goal

pub returns-then-lies_in-clause-holds : goal.returns-then-lies_in-clause-holds
returns-then-lies_in-clause-holds c = (
  λ t. record { in_root = c.lies_in.ensures.0 c.if-lies_in.true; each_live = c.all_inside.ensures.yes t },
  λ h. elim (cases_Bool c.all_inside.result) [
    | inl e ↦ e
    | inr e ↦ let (id, live, is, outside) = c.all_inside.ensures.no e in absurd (outside (h.each_live id live is))
  ],
)
