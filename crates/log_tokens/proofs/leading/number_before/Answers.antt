use Rattle.std.proofs.Common.{refl, arith}
use Rattle.log_tokens.proofs.LeadingLemmas.{number_in_front}
use Rattle.log_tokens.proofs.leading.number_before.Goals as goal

pub returns : goal.returns
returns c =
    number_in_front c.args.text.now c.args.count c.args.number c.args.end c.requires.within (omega (arith, c.requires.few)) c.requires.digits c.requires.value
    c.if-text-count.false (c.if-not-is_plain.ensures.some refl) (c.if-not-is_plain.ensures.plain refl)
