use Rattle.std.proofs.Common.{◌≡◌, refl, sym, to_z-of_z, to_z, of_z, FitsSigned, rules}
use mir.Syntax.{w64}
use Rattle.rinex_obs.proofs.FieldLemmas.{zero_observed, not_observed}
use Rattle.rinex_obs.proofs.satellite.observed.Goals as goal

pub returns-then-number-eq0-clause-value : goal.returns-then-number-eq0-clause-value
returns-then-number-eq0-clause-value c =
    let fits : FitsSigned w64 c.in-Ok-Some.number.digits = search rules in
    let same : to_z w64 (of_z w64 c.in-Ok-Some.number.digits) ≡ c.in-Ok-Some.number.digits = simp to_z-of_z refl in
    zero_observed _ _ _ c.columns.ensures.value c.read_fixed.ensures.number c.in-Ok-Some.number (cc) (sym (rw c.if-number-eq0.true at same))

pub returns-in-Err-clause-none : goal.returns-in-Err-clause-none
returns-in-Err-clause-none c = not_observed _ _ _ c.columns.ensures.value c.read_fixed.ensures.number c.in-Err.field-0 c.in-Err.is c.read_fixed.ensures.blank
