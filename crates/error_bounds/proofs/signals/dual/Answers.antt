use Rattle.std.proofs.Common.{arith, sym}
use Rattle.toml.specs.Data.{as_str}
use Rattle.error_bounds.specs.Forms.{dual_codes}
use Rattle.error_bounds.proofs.FormLemmas.{others_outside, not_two_codes}
use Rattle.error_bounds.proofs.signals.dual.Goals as goal

pub returns-in_default-clause-value : goal.returns-in_default-clause-value
returns-in_default-clause-value c =
    others_outside as_str (dual_codes c.args.band) 2 _ (not_two_codes c.args.band) (λ e. omega (arith, e, c.in_default.len_below)) (sym c.requires)

pub returns-in_default-4-clause-value : goal.returns-in_default-4-clause-value
returns-in_default-4-clause-value c =
    others_outside as_str (dual_codes c.args.band) 2 _ (not_two_codes c.args.band) (λ e. omega (arith, e, c.in_default.len_at_least)) (sym c.requires)
