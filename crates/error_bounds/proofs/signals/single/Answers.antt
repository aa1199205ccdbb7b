use Rattle.std.proofs.Common.{arith, sym}
use Rattle.toml.specs.Data.{as_str}
use Rattle.error_bounds.specs.Forms.{codes_for}
use Rattle.error_bounds.specs.declared.signals.Mode.TheVariants.{Single}
use Rattle.error_bounds.proofs.FormLemmas.{others_outside, not_one_code}
use Rattle.error_bounds.proofs.signals.single.Goals as goal

pub returns-in_default-2-clause-value : goal.returns-in_default-2-clause-value
returns-in_default-2-clause-value c =
    others_outside as_str (codes_for Single) 1 _ not_one_code (λ e. omega (arith, e, c.in_default.len_at_least)) (sym c.requires)
