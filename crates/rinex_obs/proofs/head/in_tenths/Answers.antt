use Rattle.std.proofs.Common.{◌≡◌, refl, sym, ◌∙◌, arith, to_z-of_z, to_z, of_z, FitsSigned, rules}
use mir.Syntax.{w8, w64}
use Rattle.rinex_obs.proofs.SecondsLemmas.{product_fits, digits_under, over_minute, are_tenths}
use Rattle.rinex_obs.proofs.head.in_tenths.Goals as goal

pub returns-in_err-decimals-clause-none : goal.returns-in_err-decimals-clause-none
returns-in_err-decimals-clause-none c =
    let fits : FitsSigned w8 c.args.number.ten = search rules in
    let same : to_z w8 (of_z w8 c.args.number.ten) ≡ c.args.number.ten = simp to_z-of_z refl in
    rw c.from_residual.ensures (λ tenths t. c.in_err-decimals.ensures.none t.decimals (same ∙ t.ten_is) t.few)

pub returns-in_err-digits-clause-none : goal.returns-in_err-digits-clause-none
returns-in_err-digits-clause-none c =
    let fits : FitsSigned w64 c.args.number.digits = search rules in
    let same : to_z w64 (of_z w64 c.args.number.digits) ≡ c.args.number.digits = simp to_z-of_z refl in
    rw c.from_residual-in_err-digits.ensures (λ tenths t. c.in_err-digits.ensures.none t.digits (same ∙ t.digits_are) (digits_under _ tenths t))

pub overflow_mul-tenths : goal.overflow_mul-tenths
overflow_mul-tenths c = omega (arith, product_fits _ _ c.in_ok-digits.ensures.under c.ten_to.ensures.bound)

pub returns-then-tenths-clause-none : goal.returns-then-tenths-clause-none
returns-then-tenths-clause-none c =
    let fits : FitsSigned w64 c.args.number.digits = search rules in
    let also : FitsSigned w8 c.args.number.ten = search rules in
    let digits : to_z w64 (of_z w64 c.args.number.digits) ≡ c.args.number.digits = simp to_z-of_z refl in
    let ten : to_z w8 (of_z w8 c.args.number.ten) ≡ c.args.number.ten = simp to_z-of_z refl in
    over_minute c.args.number c.in_ok-digits.digits c.in_ok-decimals.decimals c.ten_to.result (sym digits ∙ c.in_ok-digits.ensures.digits) (sym ten ∙ c.in_ok-decimals.ensures.decimals)
    c.ten_to.ensures.value c.if-tenths.true

pub returns-clause-tenths : goal.returns-clause-tenths
returns-clause-tenths c =
    let fits : FitsSigned w64 c.args.number.digits = search rules in
    let also : FitsSigned w8 c.args.number.ten = search rules in
    let digits : to_z w64 (of_z w64 c.args.number.digits) ≡ c.args.number.digits = simp to_z-of_z refl in
    let ten : to_z w8 (of_z w8 c.args.number.ten) ≡ c.args.number.ten = simp to_z-of_z refl in
    are_tenths c.args.number c.in_ok-digits.digits c.in_ok-decimals.decimals c.ten_to.result (sym digits ∙ c.in_ok-digits.ensures.digits) (sym ten ∙ c.in_ok-decimals.ensures.decimals)
    c.in_ok-decimals.ensures.few c.ten_to.ensures.value c.if-tenths.false
