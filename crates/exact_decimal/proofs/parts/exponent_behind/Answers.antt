use Rattle.std.proofs.Common.{sym, subst, to_z-of_z, FitsSigned, w64, rules}
use Rattle.grid_model.specs.Sizes.{IsWithin}
use Rattle.exact_decimal.proofs.Digits.{two_digits, signed_size}
use Rattle.exact_decimal.proofs.parts.exponent_behind.Goals as goal

pub small-exponent-requires : goal.small-exponent-requires
small-exponent-requires c =
    let fits : FitsSigned w64 c.signed_by.result = search rules in
    let few = two_digits c.number_after.result c.split_digits.result.0.now c.split_digits.ensures.are_digits c.if-digits-gt2.false c.number_after.ensures.value in
    simp to_z-of_z (subst (IsWithin 99) (sym c.signed_by.ensures) (signed_size c.split_sign-negative.result.0 c.number_after.result 99 few))
