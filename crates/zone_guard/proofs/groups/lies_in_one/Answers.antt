use Rattle.std.proofs.Common.{refl, sym, ◌∙◌}
use Rattle.std.proofs.lemmas.Bool.{false≢true}
use Rattle.grid_model.specs.Boxes.{grid_box}
use Rattle.zone_guard.specs.Planes.{plane_values}
use Rattle.zone_guard.specs.PrismAnswers.{IsEnclosed}
use Rattle.zone_guard.proofs.GroupLemmas.{other_piece, piece_here, no_piece}
use Rattle.zone_guard.proofs.groups.lies_in_one.Goals as goal

pub loop-place-preserved : goal.loop-place-preserved
loop-place-preserved c = other_piece (λ sides. IsEnclosed (plane_values c.args.bounds.now) sides (grid_box c.args.part.now)) c.args.group.now c.loop-place.place c.piece.result.now c.loop-place-test.true c.piece.ensures
    (λ so. false≢true (sym c.if-is_enclosed.false ∙ c.is_enclosed.ensures.1 so)) c.loop-place.invariant

pub returns-then-is_enclosed : goal.returns-then-is_enclosed
returns-then-is_enclosed c = (
  λ h. piece_here (λ sides. IsEnclosed (plane_values c.args.bounds.now) sides (grid_box c.args.part.now)) c.args.group.now c.loop-place.place c.piece.result.now c.loop-place-test.true c.piece.ensures
      (c.is_enclosed.ensures.0 c.if-is_enclosed.true) c.loop-place.invariant,
  λ some. refl,
)

pub returns : goal.returns
returns c = (
  λ h. absurd cc,
  λ some. absurd (no_piece (λ sides. IsEnclosed (plane_values c.args.bounds.now) sides (grid_box c.args.part.now)) c.args.group.now c.loop-place.place c.loop-place-test.false c.loop-place.invariant some),
)
