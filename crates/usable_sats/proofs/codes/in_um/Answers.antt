use Rattle.usable_sats.proofs.CodeLemmas.{lies_between, not_none}
use Rattle.usable_sats.proofs.codes.in_um.Goals as goal

pub returns-clause-out : goal.returns-clause-out
returns-clause-out c = λ none w rounded plausible. not_none c.to_unit_between.result none (c.to_unit_between.ensures.lies.1 (lies_between c.args.code w rounded plausible))
