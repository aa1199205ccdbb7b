use Rattle.std.proofs.Common.{refl, inl, inr}
use Rattle.rinex_obs.proofs.header.header_line.Goals as goal
use Rattle.std.proofs.lemmas.Bool.{both_ways}

pub returns-in-Ok : goal.returns-in-Ok
returns-in-Ok c = λ known h. (
  record { gps = known.gps; galileo = known.galileo; position = c.in-Ok.coordinates },
  inr (
    λ l. both_ways _ c.if-is_labelled.false (c.is_labelled.ensures.1 l),
    inr (
      λ l. both_ways _ c.if-is_labelled-2.false (c.is_labelled-2.ensures.1 l),
      inr (
        λ l. both_ways _ c.if-is_labelled-3.false (c.is_labelled-3.ensures.1 l),
        inl (c.is_wanted_position.ensures.0 c.if-is_wanted_position.true, inl (c.in-Ok.coordinates, c.in-Ok.ensures, refl)),
      ),
    ),
  ),
  record { gps = h.gps; galileo = h.galileo; position = refl },
)
