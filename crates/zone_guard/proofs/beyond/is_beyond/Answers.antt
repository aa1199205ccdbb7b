use Rattle.std.proofs.Common.{inl, inr, refl, sym, ◌∙◌}
use Rattle.std.proofs.lemmas.Bool.{false≢true}
use Rattle.zone_guard.proofs.beyond.is_beyond.Goals as goal

pub returns-then-lies_beyond : goal.returns-then-lies_beyond
returns-then-lies_beyond c = (λ h. inl (c.lies_beyond.ensures.0 c.if-lies_beyond.true), λ all. refl)

pub returns : goal.returns
returns c = (
  λ h. inr (c.is_beyond_some.ensures.0 h),
  λ all. elim all [
    | inl past ↦ absurd (false≢true (sym c.if-lies_beyond.false ∙ c.lies_beyond.ensures.1 past))
    | inr some ↦ c.is_beyond_some.ensures.1 some
  ],
)
