use Rattle.std.proofs.Common.{arith}
use Rattle.log_tokens.proofs.LeadingLemmas.{first_word}
use Rattle.log_tokens.proofs.leading.leading_count.Goals as goal

pub number_before-requires-clause-digits : goal.number_before-requires-clause-digits
number_before-requires-clause-digits c =
    let read = c.read_digits-count in
    (first_word c.args.text.now read.result.0 read.result.1 (omega (arith, c.if-text-lt-WORD.false)) read.ensures.end read.ensures.within read.ensures.value).digits

pub number_before-requires-clause-value : goal.number_before-requires-clause-value
number_before-requires-clause-value c =
    let read = c.read_digits-count in
    (first_word c.args.text.now read.result.0 read.result.1 (omega (arith, c.if-text-lt-WORD.false)) read.ensures.end read.ensures.within read.ensures.value).value
