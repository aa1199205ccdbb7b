use Rattle.std.proofs.Common.{arith}
use Rattle.exact_decimal.proofs.Digits.{digit_at, room_more, within_18, fits_more, value_more}
use Rattle.exact_decimal.proofs.parts.number_after.Goals as goal

pub overflow_mul-number : goal.overflow_mul-number
overflow_mul-number c =
    let more = fits_more c.loop-digit.number 0 _ _ c.loop-digit.invariant.room c.loop-digit-test.true c.requires.short (omega arith) in omega (arith, more)

pub overflow_add-number : goal.overflow_add-number
overflow_add-number c =
    let digit = digit_at c.args.digits.now c.loop-digit.digit-index c.requires.digits c.loop-digit-test.true in
    let more = fits_more c.loop-digit.number c.from.result _ _ c.loop-digit.invariant.room c.loop-digit-test.true c.requires.short
    (omega (arith, c.from.ensures, digit.high)) in
    omega (arith, more)

pub loop-digit-preserved : goal.loop-digit-preserved
loop-digit-preserved c =
    let digit = digit_at c.args.digits.now c.loop-digit.digit-index c.requires.digits c.loop-digit-test.true in
    record {
      value = value_more c.args.digits.now c.loop-digit.number _ c.loop-digit.digit-index _ c.requires.digits c.loop-digit-test.true c.loop-digit.invariant.value
          (omega (arith, c.from.ensures));
      room = room_more c.loop-digit.number c.from.result _ _ c.loop-digit.invariant.room c.loop-digit-test.true c.requires.short
          (omega (arith, c.from.ensures, digit.high));
    }

pub returns-clause-bound : goal.returns-clause-bound
returns-clause-bound c = within_18 _ _ _ c.loop-digit.invariant.room
