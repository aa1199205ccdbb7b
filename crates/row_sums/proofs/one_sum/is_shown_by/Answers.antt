use Rattle.std.proofs.Common.{◌≡◌, ◌∙◌, ap, arith, refl, sym, subst, map, List}
use Rattle.std.specs.Prelude.{pos, All}
use Rattle.std.proofs.lemmas.Int.{ints}
use Rattle.grid_model.specs.Boxes.{grid_box}
use Rattle.row_pairs.specs.FormValues.{form_value}
use Rattle.sat_model.specs.declared.row_sums.Term.{Term}
use Rattle.sat_model.specs.HalfSpaces.{SumValue, empty_sum, add_terms, terms_of, IsUsable, IsAbove}
use Rattle.row_sums.specs.SumValues.{sum_value}
use Rattle.row_sums.proofs.one_sum.is_shown_by.Goals as goal

pub returns-in_default : goal.returns-in_default
returns-in_default c =
    let fs = map form_value c.args.forms.now in (
      λ s. absurd cc,
      λ k. absurd (c.total.ensures.none (rw c.in_default.is refl) (subst (λ (ts : List Term). All (IsUsable (map form_value c.args.forms.now)) ts) (sym c.terms-terms.ensures) k.usable)),
    )

pub returns : goal.returns
returns c =
    let fs = map form_value c.args.forms.now in
    let part = grid_box c.args.part.now in
    let aim = c.args.sum.now.aim in
    let usable : All (IsUsable (map form_value c.args.forms.now)) (terms_of c.args.sum.now) = subst (λ (ts : List Term). All (IsUsable (map form_value c.args.forms.now)) ts) c.terms-terms.ensures c.in-Some.ensures.usable in
    let value : sum_value c.in-Some.value ≡ add_terms (map form_value c.args.forms.now) (terms_of c.args.sum.now) empty_sum = subst (λ (ts : List Term). sum_value c.in-Some.value ≡ add_terms (map form_value c.args.forms.now) ts empty_sum) c.terms-terms.ensures c.in-Some.ensures.value in
    let zero : c.in-Some.value.multipliers ≡ pos 0 = omega (arith, ints, c.if-value-ne0.false) in (
      λ t. record {
        usable = usable;
        balanced = ap (λ (v : SumValue). v.multipliers) (sym value) ∙ zero;
        above = subst (λ (v : SumValue). IsAbove (grid_box c.args.part.now) c.args.half.now c.args.sum.now.aim v) value (c.is_above.ensures.0 t);
      },
      λ k. c.is_above.ensures.1 (subst (λ (v : SumValue). IsAbove (grid_box c.args.part.now) c.args.half.now c.args.sum.now.aim v) (sym value) k.above),
    )
