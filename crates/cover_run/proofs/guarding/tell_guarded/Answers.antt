use Rattle.std.proofs.Common.{◌≡◌, ◌∙◌, rules}
use Rattle.paving_log.specs.Values.{log_value}
use Rattle.paving_log_check.specs.declared.verdict.Verdict.TheVariants as verdict
use Rattle.cover_run.proofs.GuardingLemmas.{found_says, guarded_fold, no_of, yes_of}
use Rattle.cover_run.proofs.TellingLemmas.{tells_as, tells_no}
use Rattle.cover_run.specs.Guarding.{AcceptsAs, RefusesAs, SaysDenied, SaysFound, SaysGuarded}
use Rattle.cover_run.proofs.guarding.tell_guarded.Goals as goal

pub tell_zones-requires-clause-folds : goal.tell_zones-requires-clause-folds
tell_zones-requires-clause-folds g c =
    let found = c.args.found.now in
    let boxes = c.in-Ok-Yes.field-0-0 in
    let is : c.in-Ok-Yes.field-0 ≡ verdict.Yes boxes = search rules in
    guarded_fold c.args.tracked c.args.chosen found boxes
    (yes_of c.in-Ok-Yes.field-0 boxes
    (AcceptsAs c.args.tracked c.args.chosen found.checked.inputs (log_value found.checked.log)) is
    c.in-Ok-Yes.ensures.yes)

pub returns-in-Ok-Yes : goal.returns-in-Ok-Yes
returns-in-Ok-Yes g c =
    let found = c.args.found.now in
    let boxes = c.in-Ok-Yes.field-0-0 in
    let is : c.in-Ok-Yes.field-0 ≡ verdict.Yes boxes = search rules in
    tells_as (SaysFound found) (λ line. ⊥) (SaysGuarded c.args.tracked c.args.chosen found)
    (SaysDenied c.args.tracked c.args.chosen found) _ _ _
    (found_says c.args.tracked c.args.chosen found boxes
    (yes_of c.in-Ok-Yes.field-0 boxes
    (AcceptsAs c.args.tracked c.args.chosen found.checked.inputs (log_value found.checked.log)) is
    c.in-Ok-Yes.ensures.yes))
    (λ line none. absurd none) c.tell_zones.result c.tell_zones.ensures

pub returns-in-Ok-No : goal.returns-in-Ok-No
returns-in-Ok-No g c =
    let found = c.args.found.now in
    let fault = c.in-Ok-No.fault in
    let denied : c.in-Ok-No.field-0 ≡ verdict.No fault = search rules in
    let refused = no_of c.in-Ok-No.field-0 fault
    (RefusesAs c.args.tracked c.args.chosen found.checked.inputs (log_value found.checked.log))
    denied c.in-Ok-No.ensures.no in
    let line = c.as_bytes.result.now in
    let is = c.as_bytes.ensures.value ∙ c.deref.ensures.0 ∙ c.fault_line.ensures in
    tells_no _ _ _ _ _ line c.tell.result (fault, refused, is) c.tell.ensures
