use Rattle.std.proofs.Common.{refl, inl, inr}
use Rattle.rinex_obs.proofs.header.types_behind.Goals as goal

pub returns-in-Ok-galileo_line : goal.returns-in-Ok-galileo_line
returns-in-Ok-galileo_line c = λ known h.
    let g = c.in-Ok.ensures known.gps h.gps in
    let e = c.in-Ok-galileo_line.ensures known.galileo h.galileo in (
      record { gps = g.0; galileo = e.0; position = known.position },
      inl (g.0, g.1, inl (e.0, e.1, refl)),
      record { gps = g.2; galileo = e.2; position = h.position },
    )

pub returns-in-Err-galileo_line : goal.returns-in-Err-galileo_line
returns-in-Err-galileo_line c = λ known h.
    let g = c.in-Ok.ensures known.gps h.gps in
    inl (g.0, g.1, inr (c.in-Err-galileo_line.fault, c.in-Err-galileo_line.ensures known.galileo h.galileo, refl))
