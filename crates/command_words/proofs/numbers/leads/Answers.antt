use Rattle.std.proofs.Common.{arith, sym}
use Rattle.command_words.proofs.NumberLemmas.{leads_from}
use Rattle.command_words.proofs.numbers.leads.Goals as goal

pub returns-in-len2-up : goal.returns-in-len2-up
returns-in-len2-up c = sym (leads_from c.args.digits.now (omega arith))
