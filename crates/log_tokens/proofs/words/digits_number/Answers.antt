use Rattle.std.proofs.Common.{◌≡◌, ℕ, zero, suc, ◌<◌, false, eqb, length, take, get_or, sym, ◌∙◌, arith}
use Rattle.std.proofs.lemmas.Bool.{eq-eqb, eqb-true, ltb-true}
use Rattle.std.proofs.lemmas.Int.Digits.{digits_more}
use Rattle.std.proofs.lemmas.Grind.{common_steps}
use Rattle.log_tokens.proofs.DigitLemmas.{digits_of_number, digit_byte, value_more, value_fits, number_spelled}
use Rattle.grid_model.proofs.PlainLemmas.{not_both}
use Rattle.log_tokens.proofs.words.digits_number.Goals as goal
use Rattle.log_tokens.proofs.words.digits_number.Goals.{then-is_empty-via-then-is_empty, then-is_empty-via-else-is_empty+then-digits-gt-MOST_DIGITS, then-is_empty-via-else-is_empty+else-digits-gt-MOST_DIGITS+then-digits-eq48, then-digits-gt1, else-digits-gt1}

positive : (n : ℕ) → eqb n 0 ≡ false → 0 < n
positive zero e = absurd cc
positive (suc n) e = omega arith

pub returns-then-is_empty-clause-none : goal.returns-then-is_empty-clause-none
returns-then-is_empty-clause-none c = λ n small e.
    let are = digits_of_number c.args.digits.now n small e in
    elim c.then-is_empty.branch [
      | then-is_empty-via-then-is_empty w ↦ omega (arith, are.some, eqb-true (length c.args.digits.now) 0 (sym c.is_empty.ensures ∙ w.if-is_empty.true))
      | then-is_empty-via-else-is_empty+then-digits-gt-MOST_DIGITS w ↦ omega (arith, are.few, w.if-digits-gt-MOST_DIGITS.true)
      | then-is_empty-via-else-is_empty+else-digits-gt-MOST_DIGITS+then-digits-eq48 w ↦ elim w.if-digits-gt1.branch [
        | then-digits-gt1 w' ↦ are.plain w'.if-digits-gt1.true (eqb-true (get_or c.args.digits.now 0 0) 48 (sym w'.value-is ∙ w.if-digits-eq48.true))
        | else-digits-gt1 w' ↦ omega (arith, w'.if-digits-gt1.false, ltb-true 1 (length c.args.digits.now) (sym w'.value-is ∙ w.if-digits-eq48.true))
      ]
    ]

pub returns-then-digit-gt9-clause-none : goal.returns-then-digit-gt9-clause-none
returns-then-digit-gt9-clause-none c = λ n small e.
    let are = digits_of_number c.args.digits.now n small e in
    let range = are.range c.loop-byte.byte-index c.loop-byte-test.true in
    omega (arith, range.0, range.1, c.if-digit-gt9.true)

pub overflow_mul-number : goal.overflow_mul-number
overflow_mul-number c = record {
  fits = omega (
    arith,
    value_fits c.args.digits.now c.loop-byte.byte-index c.loop-byte.number (c.type_inv.digits c.loop-byte.byte-index).fits c.if-digit-gt9.false
        c.loop-byte-test.true c.if-digits-gt-MOST_DIGITS.false c.loop-byte.invariant.digits c.loop-byte.invariant.value,
  );
}

pub overflow_add-number : goal.overflow_add-number
overflow_add-number c = record {
  fits = omega (
    arith,
    c.from.ensures,
    value_fits c.args.digits.now c.loop-byte.byte-index c.loop-byte.number (c.type_inv.digits c.loop-byte.byte-index).fits c.if-digit-gt9.false
        c.loop-byte-test.true c.if-digits-gt-MOST_DIGITS.false c.loop-byte.invariant.digits c.loop-byte.invariant.value,
  );
}

pub loop-byte-preserved : goal.loop-byte-preserved
loop-byte-preserved c =
    let digits = c.args.digits.now in
    let is = digit_byte (get_or digits c.loop-byte.byte-index 0) (c.type_inv.digits c.loop-byte.byte-index).fits c.if-digit-gt9.false in
    record {
      digits = digits_more 10 digits c.loop-byte.byte-index c.loop-byte-test.true c.loop-byte.invariant.digits is.small;
      value = rw c.from.ensures (value_more digits c.loop-byte.byte-index c.loop-byte.number _ c.loop-byte-test.true c.loop-byte.invariant.value is.value);
    }

pub returns-clause-found : goal.returns-clause-found
returns-clause-found c =
    let digits = c.args.digits.now in
    let whole : take c.loop-byte.byte-index digits ≡ digits = grind (arith, common_steps, c.loop-byte-test.false) in
    let all = rw whole at c.loop-byte.invariant.digits in
    let value = rw whole at c.loop-byte.invariant.value in
    number_spelled digits c.loop-byte.number (positive (length digits) (sym c.is_empty.ensures ∙ c.if-is_empty.false)) c.if-digits-gt-MOST_DIGITS.false
    (λ more zeros. elim c.if-digits-gt1.branch [
      | then-digits-gt1 w ↦ not_both _ c.if-digits-eq48.false (w.value-is ∙ eq-eqb (get_or digits 0 0) 48 zeros)
      | else-digits-gt1 w ↦ omega (arith, more, w.if-digits-gt1.false)
    ]) all value
