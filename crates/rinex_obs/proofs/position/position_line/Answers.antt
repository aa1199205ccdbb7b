use Rattle.std.proofs.Common.{refl, inl, inr}
use Rattle.rinex_obs.proofs.position.position_line.Goals as goal

pub returns-in_default-fixed_field-2 : goal.returns-in_default-fixed_field-2
returns-in_default-fixed_field-2 c = inl (c.in-Ok.x, c.in-Ok.ensures.number, inl (c.in-Ok-fixed_field.y, c.in-Ok-fixed_field.ensures.number, inr (c.in_default-fixed_field-2.ensures.none, refl)))

pub returns : goal.returns
returns c =
    inl (c.in-Ok.x, c.in-Ok.ensures.number, inl (c.in-Ok-fixed_field.y, c.in-Ok-fixed_field.ensures.number, inl (c.in-Ok-fixed_field-2.z, c.in-Ok-fixed_field-2.ensures.number, rw c.all_three.ensures refl)))
