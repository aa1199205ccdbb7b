use Rattle.std.proofs.Common.{subst}
use Rattle.gnss_model.specs.Pseudorange.{IsRangeOf}
use Rattle.usable_sats.specs.Measured.{codes_of}
use Rattle.sat_rows.specs.RowSizes.{AreNarrow}
use Rattle.usable_sats.specs.Usability.{ArePlausible}
use Rattle.usable_sats.specs.declared.codes.Measured.{Measured}
use Rattle.sat_rows.proofs.SpanLemmas.{dual_ends}
use Rattle.sat_rows.proofs.signals.pseudorange.Goals as goal

pub returns-in-Dual-clause-holds : goal.returns-in-Dual-clause-holds
returns-in-Dual-clause-holds c x h = c.dual_of.ensures.holds x (subst (λ (codes : Measured). IsRangeOf c.args.system (codes_of codes) x) c.in-Dual.is h)

pub returns-in-Dual-clause-ends : goal.returns-in-Dual-clause-ends
returns-in-Dual-clause-ends c =
    let p = subst (λ (codes : Measured). ArePlausible c.args.system (codes_of codes)) c.in-Dual.is c.requires.plausible in
    let n = subst (λ (codes : Measured). AreNarrow (codes_of codes)) c.in-Dual.is c.requires.narrow in
    dual_ends c.args.system c.in-Dual.first c.in-Dual.second c.dual_of.result.lo c.dual_of.result.hi p.2 c.dual_of.ensures.holds (c.dual_of.ensures.width n.0 n.1)
