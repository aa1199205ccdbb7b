use Rattle.std.proofs.Common.{◌≡◌, ◌-◌, append_assoc, append-nil, arith, refl}
use Rattle.std.proofs.Math.Nat.{one-le-pow}
use Rattle.decimal_digits.proofs.DigitLemmas.{digits_more, no_digits}
use Rattle.decimal_digits.proofs.+push_digits.Goals as goal

pub nonzero_div-number : goal.nonzero_div-number
nonzero_div-number t c = omega (arith, c.pow-power.ensures, one-le-pow (c.args.count - 1) 10 (omega arith))

pub returns-then-count-eq0 : goal.returns-then-count-eq0
returns-then-count-eq0 t c =
    let none : c.args.count ≡ 0 = grind arith in
    rw (none, no_digits c.args.number, append-nil c.args.text.now.items) refl

pub returns : goal.returns
returns t c =
    let more = digits_more c.args.count c.args.number (grind arith) in
    rw (more, c.in_ok-push_digits.ensures, c.in_ok-push.ensures.items, c.pow-power.ensures) (simp append_assoc refl)
