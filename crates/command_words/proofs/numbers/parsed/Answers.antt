use Rattle.std.proofs.Common.{arith, sym}
use Rattle.command_words.proofs.NumberLemmas.{not_parsed}
use Rattle.command_words.proofs.numbers.parsed.Goals as goal

pub returns-in-Err-clause-value : goal.returns-in-Err-clause-value
returns-in-Err-clause-value c =
    sym (not_parsed c.args.low c.args.high c.args.digits.now c.parse.result c.in-Err.field-0 c.in-Err.is (omega arith) c.requires c.parse.ensures.value.0)
