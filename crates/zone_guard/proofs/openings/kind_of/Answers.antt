use Rattle.std.proofs.Common.{◌≡◌, rules}
use Rattle.std.specs.Prelude.{codes}
use Rattle.zone_guard.proofs.OpeningLemmas.{no_corners}
use Rattle.zone_guard.proofs.openings.kind_of.Goals as goal

pub returns-in_err-part-clause-none : goal.returns-in_err-part-clause-none
returns-in_err-part-clause-none c =
    let zone : c.args.first.now ≡ codes "zone" = search rules in
    rw c.from_residual.ensures (λ k fits is spelled. no_corners _ c.in_err-part.ensures c.args.first.now k zone fits is spelled)
