use Rattle.std.proofs.Common.{refl, arith}
use Rattle.log_tokens.proofs.LeadingLemmas.{digit_in_front}
use Rattle.log_tokens.proofs.leading.leading_digit.Goals as goal

pub returns : goal.returns
returns c = (omega arith, digit_in_front c.args.text.now _ c.args.end (omega arith) (c.type_inv.text 0).fits refl (omega arith) (omega arith))
