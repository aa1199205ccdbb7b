use Rattle.std.proofs.Common.{List, ℕ, sym, subst}
use Rattle.rinex_nav.specs.Fields.{IsField}
use Rattle.rinex_nav.proofs.FieldLemmas.{no_field}
use Rattle.rinex_nav.proofs.field.field.Goals as goal

pub returns-in-Err-clause-none : goal.returns-in-Err-clause-none
returns-in-Err-clause-none c = λ number is.
    no_field c.read_exp.result c.columns.result.now c.in-Err.field-0 c.read_exp.ensures.blank c.read_exp.ensures.number c.in-Err.is number
    (subst (λ (f : List ℕ). IsField f number) (sym c.columns.ensures.value) is)
