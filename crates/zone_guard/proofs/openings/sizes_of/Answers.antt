use Rattle.std.proofs.Common.{[], sym, ◌∙◌}
use Rattle.zone_guard.proofs.OpeningLemmas.{second_word}
use Rattle.zone_guard.proofs.openings.sizes_of.Goals as goal

pub returns-in_err-each-clause-none : goal.returns-in_err-each-clause-none
returns-in_err-each-clause-none c = rw c.from_residual-in_err-each.ensures (λ m k few short line. c.in_err-each.ensures k [] short (second_word _ _ _ _ (sym c.in_ok-pieces.ensures.1 ∙ line)))
