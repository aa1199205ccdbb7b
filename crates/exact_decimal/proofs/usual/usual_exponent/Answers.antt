use Rattle.std.proofs.Common.{get_or, ◌≡◌, ◌≤◌, ◌∙◌, true, arith, refl, sym, subst, to_z, of_z, to_z-of_z, FitsSigned, w8, w64, rules}
use Rattle.grid_model.specs.Sizes.{IsWithin}
use Rattle.exact_decimal.specs.NumberFields.{is_exponent_letter}
use Rattle.exact_decimal.proofs.Digits.{signed_size}
use Rattle.exact_decimal.proofs.UsualNumbers.{exponent_is}
use Rattle.exact_decimal.proofs.usual.usual_exponent.Goals as goal

pub small-requires : goal.small-requires
small-requires c =
    let fits : FitsSigned w64 c.signed_by.result = search rules in
    let few : c.from.result ≤ 99 = omega (arith, c.from.ensures, c.in_ok-digit.ensures.bound, c.in_ok-number.ensures.bound) in
    simp to_z-of_z (subst (IsWithin 99) (sym c.signed_by.ensures) (signed_size c.in_ok-negative.negative c.from.result 99 few))

pub returns-clause-exponent : goal.returns-clause-exponent
returns-clause-exponent c =
    let fits : FitsSigned w64 c.signed_by.result = search rules in
    let back : to_z w64 (of_z w64 c.signed_by.result) ≡ c.signed_by.result = simp to_z-of_z refl in
    let narrow : FitsSigned w8 c.small.result = search rules in
    let letter : is_exponent_letter (get_or c.args.text.now 0 0) ≡ true = search rules in
    simp to_z-of_z
    (exponent_is c.args.text.now c.from.result c.in_ok-negative.negative c.small.result (omega (arith, c.in-len4.len_at_least, c.in-len4.len_below)) letter
    c.in_ok-negative.ensures c.in_ok-digit.ensures.digit c.in_ok-number.ensures.digit
    (omega (arith, c.from.ensures, c.in_ok-digit.ensures.value, c.in_ok-number.ensures.value)) (c.small.ensures.same ∙ (back ∙ c.signed_by.ensures)))
