use Rattle.std.proofs.Common.{◌≡◌, true, is_some, length, arith, refl, sym, ◌∙◌, to_z, of_z, w64}
use Rattle.std.proofs.lemmas.Int.{ints}
use Rattle.toml.specs.Data.{as_integer}
use Rattle.toml.specs.View.{items_view}
use Rattle.error_bounds.specs.Forms.{all_members, ends_of}
use Rattle.error_bounds.proofs.FormLemmas.{others_outside, not_two, two_members}
use Rattle.error_bounds.proofs.form.ErrorsForm.read.Goals as goal

pub returns-in_default-as_slice-clause-value : goal.returns-in_default-as_slice-clause-value
returns-in_default-as_slice-clause-value c =
    let kinds : true ≡ is_some (all_members as_integer (items_view c.in-Some.items.now.items)) =
    sym c.if-not-are_integers.false ∙ (rw c.deref.ensures.value at c.are_integers.ensures) in
    rw (← rw c.in-Some.is at c.as_array.ensures)
    (others_outside as_integer (ends_of c.args.self.now.most) 2 _ (not_two c.args.self.now.most) (λ e. omega (arith, e, c.as_slice.ensures.len, c.in_default-as_slice.len_below)) kinds)

pub returns-in_default-as_slice-2-clause-value : goal.returns-in_default-as_slice-2-clause-value
returns-in_default-as_slice-2-clause-value c =
    let kinds : true ≡ is_some (all_members as_integer (items_view c.in-Some.items.now.items)) =
    sym c.if-not-are_integers.false ∙ (rw c.deref.ensures.value at c.are_integers.ensures) in
    rw (← rw c.in-Some.is at c.as_array.ensures)
    (others_outside as_integer (ends_of c.args.self.now.most) 2 _ (not_two c.args.self.now.most) (λ e. omega (arith, e, c.as_slice.ensures.len, c.in_default-as_slice.len_at_least)) kinds)

pub returns-in-Some-Some-clause-value : goal.returns-in-Some-Some-clause-value
returns-in-Some-Some-clause-value c =
    let lo_is : to_z w64 (of_z w64 c.in-Some-Some.lo) ≡ c.in-Some-Some.lo = omega (arith, ints) in
    let hi_is : to_z w64 (of_z w64 c.in-Some-Some.hi) ≡ c.in-Some-Some.hi = omega (arith, ints) in
    let two : length c.as_slice.result.now ≡ 2 = omega (arith, c.in-len2.len_at_least, c.in-len2.len_below) in
    let members = two_members as_integer c.as_slice.result.now c.lo-item.result c.hi-item.result c.in-Some-Some.lo c.in-Some-Some.hi two c.lo-item.is c.hi-item.is
    (sym c.as_integer.ensures ∙ c.in-Some-Some.is-0) (sym c.as_integer-2.ensures ∙ c.in-Some-Some.is-1) in
    (rw (lo_is, hi_is) at c.span_of.ensures.value) ∙ rw (← rw c.in-Some.is at c.as_array.ensures, rw c.as_slice.ensures.value at members) refl
