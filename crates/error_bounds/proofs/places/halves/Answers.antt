use Rattle.std.proofs.Common.{sym, ap, ◌∙◌, to_z, of_z, w64}
use Rattle.grid_model.specs.declared.boxes.Pos.{Pos}
use Rattle.error_bounds.proofs.FormLemmas.{half_of}
use Rattle.error_bounds.proofs.places.halves.Goals as goal

pub returns-then-is_half-3-clause-allowed : goal.returns-then-is_half-3-clause-allowed
returns-then-is_half-3-clause-allowed c = record {
  x = half_of (to_z w64 (of_z w64 c.args.x)) _ (sym c.is_half.ensures ∙ c.if-is_half.true) (ap (λ (p : Pos). p.x) c.in_um.ensures);
  y = half_of (to_z w64 (of_z w64 c.args.y)) _ (sym c.is_half-then-is_half.ensures ∙ c.if-is_half-2.true) (ap (λ (p : Pos). p.y) c.in_um.ensures);
  z = half_of (to_z w64 (of_z w64 c.args.z)) _ (sym c.is_half-then-is_half-2.ensures ∙ c.if-is_half-3.true) (ap (λ (p : Pos). p.z) c.in_um.ensures);
}
