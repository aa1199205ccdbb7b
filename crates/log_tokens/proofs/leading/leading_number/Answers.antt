use Rattle.std.proofs.Common.{arith}
use Rattle.log_tokens.proofs.LeadingLemmas.{first_word, second_word}
use Rattle.log_tokens.proofs.leading.leading_number.Goals as goal

pub number_before-requires-clause-digits : goal.number_before-requires-clause-digits
number_before-requires-clause-digits c =
    let read = c.read_digits-first in
    (first_word c.args.text.now read.result.0 read.result.1 (omega (arith, c.if-text.false)) read.ensures.end read.ensures.within read.ensures.value).digits

pub number_before-requires-clause-value : goal.number_before-requires-clause-value
number_before-requires-clause-value c =
    let read = c.read_digits-first in
    (first_word c.args.text.now read.result.0 read.result.1 (omega (arith, c.if-text.false)) read.ensures.end read.ensures.within read.ensures.value).value

pub number_before-requires-2-clause-digits : goal.number_before-requires-2-clause-digits
number_before-requires-2-clause-digits c =
    let first = c.read_digits-first in
    let second = c.read_digits-second in
    let front = first_word c.args.text.now first.result.0 first.result.1 (omega (arith, c.if-text.false)) first.ensures.end first.ensures.within first.ensures.value in
    (second_word c.args.text.now first.result.0 first.result.1 second.result.0 second.result.1 c.if-text.false front c.if-first-lt-WORD.false first.ensures.within second.ensures.end second.ensures.within second.ensures.value).digits

pub number_before-requires-2-clause-value : goal.number_before-requires-2-clause-value
number_before-requires-2-clause-value c =
    let first = c.read_digits-first in
    let second = c.read_digits-second in
    let front = first_word c.args.text.now first.result.0 first.result.1 (omega (arith, c.if-text.false)) first.ensures.end first.ensures.within first.ensures.value in
    (second_word c.args.text.now first.result.0 first.result.1 second.result.0 second.result.1 c.if-text.false front c.if-first-lt-WORD.false first.ensures.within second.ensures.end second.ensures.within second.ensures.value).value
