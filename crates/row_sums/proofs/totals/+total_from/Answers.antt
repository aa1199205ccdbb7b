use Rattle.std.proofs.Common.{◌≡◌, ◌∙◌, ◌+◌, ap, rules, map, drop, FitsSigned, w64}
use Rattle.std.proofs.lemmas.Int.{to_z-of_z}
use Rattle.std.proofs.lemmas.Option.{IfSome_then}
use Rattle.row_pairs.specs.FormValues.{form_value}
use Rattle.row_pairs.proofs.LeastLemmas.{not_both}
use Rattle.sat_model.specs.HalfSpaces.{SumValue, add_form, add_terms}
use Rattle.row_sums.specs.SumValues.{sum_value}
use Rattle.row_sums.proofs.TotalLemmas.{IsNext, not_there, not_usable, less_usable, more_usable, add_next}
use Rattle.row_sums.proofs.totals.+total_from.Goals as goal

pub returns-then-row-forms-clause-none : goal.returns-then-row-forms-clause-none
returns-then-row-forms-clause-none t c = λ n.
    let next : IsNext c.args.forms.now c.args.terms.now c.args.place c.index-terms-place.result c.from-row.result = record { within = c.if-place-terms.false; reads = c.index-terms-place.is; is = c.from-row.ensures } in
    not_there c.args.forms.now c.args.terms.now c.args.place c.index-terms-place.result c.from-row.result next c.if-row-forms.true

pub returns-then-not-is_usable-clause-none : goal.returns-then-not-is_usable-clause-none
returns-then-not-is_usable-clause-none t c = λ n.
    let next : IsNext c.args.forms.now c.args.terms.now c.args.place c.index-terms-place.result c.from-row.result = record { within = c.if-place-terms.false; reads = c.index-terms-place.is; is = c.from-row.ensures } in
    not_usable c.args.forms.now c.args.terms.now c.args.place c.index-terms-place.result c.from-row.result c.index-forms-row.result next c.if-row-forms.false c.index-forms-row.is
    (λ u. not_both c.is_usable.result c.if-not-is_usable.true (c.is_usable.ensures.1 u))

pub returns-clause-none : goal.returns-clause-none
returns-clause-none t c = λ n all.
    let next : IsNext c.args.forms.now c.args.terms.now c.args.place c.index-terms-place.result c.from-row.result = record { within = c.if-place-terms.false; reads = c.index-terms-place.is; is = c.from-row.ensures } in
    c.total_from.ensures.none n (less_usable c.args.forms.now c.args.terms.now c.args.place c.index-terms-place.result c.from-row.result next all)

pub returns-clause-usable : goal.returns-clause-usable
returns-clause-usable t c =
    let next : IsNext c.args.forms.now c.args.terms.now c.args.place c.index-terms-place.result c.from-row.result = record { within = c.if-place-terms.false; reads = c.index-terms-place.is; is = c.from-row.ensures } in
    let u = c.is_usable.ensures.0 c.if-not-is_usable.false in
    IfSome_then c.total_from.result c.total_from.ensures.usable (λ x all. more_usable c.args.forms.now c.args.terms.now c.args.place c.index-terms-place.result c.from-row.result c.index-forms-row.result next c.if-row-forms.false c.index-forms-row.is u.0 u.1 all)

pub returns-clause-value : goal.returns-clause-value
returns-clause-value t c =
    let next : IsNext c.args.forms.now c.args.terms.now c.args.place c.index-terms-place.result c.from-row.result = record { within = c.if-place-terms.false; reads = c.index-terms-place.is; is = c.from-row.ensures } in
    let f : FitsSigned w64 c.index-terms-place.result.multiplier = search rules in
    let fs = map form_value c.args.forms.now in
    let rest = drop (c.args.place + 1) c.args.terms.now in
    let added : sum_value c.added.result ≡ add_form c.index-terms-place.result.multiplier (form_value c.index-forms-row.result) (sum_value c.args.sum) = simp to_z-of_z at c.added.ensures.value in
    IfSome_then c.total_from.result c.total_from.ensures.value (λ s e.
    e ∙ ap (λ (v : SumValue). add_terms fs rest v) added
    ∙ add_next c.args.forms.now c.args.terms.now c.args.place c.index-terms-place.result c.from-row.result c.index-forms-row.result (sum_value c.args.sum) next c.if-row-forms.false c.index-forms-row.is)
