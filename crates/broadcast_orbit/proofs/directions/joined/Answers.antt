use Rattle.broadcast_orbit.proofs.directions.joined.Goals as goal

pub returns-clause-ends : goal.returns-clause-ends
returns-clause-ends c k j l i s = record {
  cosine = c.difference_of_products.ensures.ends k j l i s.cosines s.sines;
  sine = c.sum_of_products.ensures.ends k j l i s.sine_cosine s.cosine_sine;
}
