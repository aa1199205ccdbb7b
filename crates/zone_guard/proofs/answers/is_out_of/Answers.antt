use Rattle.std.proofs.Common.{inl, inr, refl, sym, subst, ◌∙◌}
use Rattle.std.proofs.lemmas.Bool.{false≢true}
use Rattle.grid_model.specs.Boxes.{GridBox, grid_box}
use Rattle.zone_guard.specs.Beyond.{IsSoOfOne}
use Rattle.zone_guard.specs.Planes.{LiesBeyond, plane_values}
use Rattle.zone_guard.proofs.AnswerLemmas.{apart_shared, behind_apart, not_apart, shared_apart}
use Rattle.zone_guard.proofs.answers.is_out_of.Goals as goal

pub shared-requires : goal.shared-requires
shared-requires c = c.meets.ensures.0 c.if-not-meets.false

pub returns-then-not-meets : goal.returns-then-not-meets
returns-then-not-meets c = (
  λ h. inl (behind_apart c.args.part.now c.args.zone.now (λ met. false≢true (sym c.if-not-meets.true ∙ c.meets.ensures.1 met))),
  λ all. refl,
)

pub returns : goal.returns
returns c =
    let part = grid_box c.args.part.now in
    let zone = grid_box c.args.zone.now in
    let bounds = plane_values c.args.bounds.now in (
      λ h. inr (shared_apart part zone bounds (subst (λ (b : GridBox). IsSoOfOne (LiesBeyond b) bounds) c.shared.ensures (c.is_past_some.ensures.0 h))),
      λ all. elim all [
        | inl apart ↦ absurd (not_apart c.args.part.now c.args.zone.now (c.meets.ensures.0 c.if-not-meets.false) apart)
        | inr some ↦ c.is_past_some.ensures.1 (subst (λ (b : GridBox). IsSoOfOne (LiesBeyond b) bounds) (sym c.shared.ensures) (apart_shared part zone bounds some))
      ],
    )
