use Rattle.std.proofs.Common.{sym, ap, ◌∙◌, to_z, of_z, w64}
use Rattle.grid_model.specs.declared.boxes.Pos.{Pos}
use Rattle.error_bounds.proofs.FormLemmas.{coordinate_of}
use Rattle.error_bounds.proofs.places.point.Goals as goal

pub returns-then-is_within-3-clause-near : goal.returns-then-is_within-3-clause-near
returns-then-is_within-3-clause-near c = record {
  x = coordinate_of (to_z w64 (of_z w64 c.args.x)) _ (sym c.is_within.ensures ∙ c.if-is_within.true) (ap (λ (p : Pos). p.x) c.in_um.ensures);
  y = coordinate_of (to_z w64 (of_z w64 c.args.y)) _ (sym c.is_within-then-is_within.ensures ∙ c.if-is_within-2.true) (ap (λ (p : Pos). p.y) c.in_um.ensures);
  z = coordinate_of (to_z w64 (of_z w64 c.args.z)) _ (sym c.is_within-then-is_within-2.ensures ∙ c.if-is_within-3.true) (ap (λ (p : Pos). p.z) c.in_um.ensures);
}
