use Rattle.std.proofs.Common.{◌≡◌, ◌∙◌, length, get_or, arith, refl, to_z, of_z, to_z-of_z, FitsSigned, w8, w64, rules}
use Rattle.std.specs.Prelude.{pos, ◌-ℤ◌}
use Rattle.std.proofs.lemmas.Int.{ints}
use Rattle.exact_decimal.proofs.UsualNumbers.{IsUsual, parts_join, usual_is}
use Rattle.exact_decimal.proofs.usual.usual_number.Goals as goal

pub returns : goal.returns
returns c =
    let field = c.args.field.now in
    let exponent = c.in_ok-exponent.exponent in
    let bound = c.in_ok-exponent.ensures.bound in
    let point : get_or field 2 0 ≡ 46 = search rules in
    let twelve : length c.split_at.result.0.now ≡ 12 = search rules in
    let usual : IsUsual field c.split_at.result.0.now c.split_at.result.1.now c.in_ok-negative.negative c.in_ok-negative.before c.in_ok-amount.amount exponent = record {
      long = c.in-len3-up.len_at_least;
      opens = c.in_ok-negative.ensures.opens;
      point = point;
      rest = parts_join field c.split_at.result.0.now c.split_at.result.1.now c.split_at.ensures.front c.split_at.ensures.back;
      digits = c.in_ok-amount.ensures.digits;
      twelve = twelve;
      value = c.in_ok-amount.ensures.value;
      exponent_is = c.in_ok-exponent.ensures.exponent;
    } in
    let fits : FitsSigned w64 c.signed_by.result = search rules in
    let back : to_z w64 (of_z w64 c.signed_by.result) ≡ c.signed_by.result = simp to_z-of_z refl in
    let same : to_z w8 (of_z w8 exponent) ≡ exponent = omega (arith, ints, bound.low, bound.high) in
    let less : to_z w8 (of_z w8 (exponent -ℤ pos 12)) ≡ exponent -ℤ pos 12 = omega (arith, ints, bound.low, bound.high) in
    usual_is field c.split_at.result.0.now c.split_at.result.1.now c.in_ok-negative.negative c.in_ok-negative.before c.in_ok-amount.amount exponent _ _ usual (back ∙ c.signed_by.ensures) (rw same less)
