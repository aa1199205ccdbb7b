use Rattle.rinex_text.specs.Columns.{columns_of}
use Rattle.rinex_obs.specs.Epochs.{IsSeconds}
use Rattle.rinex_obs.specs.Reading.{AreTenths}
use Rattle.rinex_obs.proofs.HeadLemmas.{seconds_are, number_read, tenths_are, some_on, none_on}
use Rattle.rinex_obs.proofs.head.seconds.Goals as goal

pub returns-in-Ok-Some-clause-tenths : goal.returns-in-Ok-Some-clause-tenths
returns-in-Ok-Some-clause-tenths c =
    some_on (AreTenths c.in-Ok-Some.number) (IsSeconds (columns_of c.args.text.now 19 29))
    (λ tenths t. seconds_are c.read_fixed.result _ _ c.columns.ensures.value c.read_fixed.ensures.number c.in-Ok-Some.number tenths (cc) t) _ c.in_tenths.ensures.tenths

pub returns-in-Ok-Some-clause-none : goal.returns-in-Ok-Some-clause-none
returns-in-Ok-Some-clause-none c =
    none_on (AreTenths c.in-Ok-Some.number) (IsSeconds (columns_of c.args.text.now 19 29))
    (λ tenths s. tenths_are c.read_fixed.result _ _ c.columns.ensures.value c.read_fixed.ensures.number c.in-Ok-Some.number tenths (cc) s) _ c.in_tenths.ensures.none

pub returns-in_default-clause-none : goal.returns-in_default-clause-none
returns-in_default-clause-none c = λ tenths s. absurd (let other = number_read c.read_fixed.result _ _ c.columns.ensures.value c.read_fixed.ensures.number tenths s in cc)

pub returns-in_default-2-clause-none : goal.returns-in_default-2-clause-none
returns-in_default-2-clause-none c = λ tenths s. absurd (let other = number_read c.read_fixed.result _ _ c.columns.ensures.value c.read_fixed.ensures.number tenths s in cc)
