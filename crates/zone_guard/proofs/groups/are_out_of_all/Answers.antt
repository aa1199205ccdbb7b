use Rattle.std.proofs.Common.{refl, sym, map, ◌∙◌}
use Rattle.std.proofs.lemmas.Bool.{false≢true}
use Rattle.grid_model.specs.Boxes.{grid_box}
use Rattle.zone_guard.specs.Planes.{plane_values}
use Rattle.zone_guard.specs.PrismAnswers.{AreShutOut}
use Rattle.zone_guard.proofs.GroupLemmas.{piece_next, piece_not, pieces_held}
use Rattle.zone_guard.proofs.groups.are_out_of_all.Goals as goal

pub loop-place-preserved : goal.loop-place-preserved
loop-place-preserved c = piece_next (λ sides. AreShutOut (plane_values c.args.bounds.now) sides (map grid_box c.args.boxes.now)) c.args.group.now c.loop-place.place c.piece.result.now c.loop-place-test.true c.piece.ensures
    (c.are_shut_out.ensures.0 c.if-not-are_shut_out.false) c.loop-place.invariant

pub returns-then-not-are_shut_out : goal.returns-then-not-are_shut_out
returns-then-not-are_shut_out c = (
  λ h. absurd cc,
  λ all. absurd (piece_not (λ sides. AreShutOut (plane_values c.args.bounds.now) sides (map grid_box c.args.boxes.now)) c.args.group.now c.loop-place.place c.piece.result.now c.loop-place-test.true c.piece.ensures
      (λ so. false≢true (sym c.if-not-are_shut_out.true ∙ c.are_shut_out.ensures.1 so)) c.loop-place.invariant all),
)

pub returns : goal.returns
returns c = (
  λ h. pieces_held (λ sides. AreShutOut (plane_values c.args.bounds.now) sides (map grid_box c.args.boxes.now)) c.args.group.now c.loop-place.place c.loop-place-test.false c.loop-place.invariant,
  λ all. refl,
)
