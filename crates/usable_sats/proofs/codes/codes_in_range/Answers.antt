use Rattle.usable_sats.proofs.JudgementLemmas.{have_there}
use Rattle.usable_sats.proofs.codes.codes_in_range.Goals as goal

pub returns-in-Missing-clause-none : goal.returns-in-Missing-clause-none
returns-in-Missing-clause-none c = λ codes values plausible. c.in-Missing.ensures (have_there c.args.signal.now c.args.seen.now codes values)

pub returns-in-OutOfRange-clause-none : goal.returns-in-OutOfRange-clause-none
returns-in-OutOfRange-clause-none c = λ codes values plausible. c.in-OutOfRange.ensures.1 codes values plausible
