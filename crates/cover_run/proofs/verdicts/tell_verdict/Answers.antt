use Rattle.std.proofs.Common.{◌∙◌, rules}
use Rattle.cover_run.proofs.TellingLemmas.{tells_no}
use Rattle.cover_run.proofs.verdicts.tell_verdict.Goals as goal

pub returns-in-Ok-No : goal.returns-in-Ok-No
returns-in-Ok-No g c =
    let line = c.as_bytes-in-Ok-No.result.now in
    let is =
    c.as_bytes-in-Ok-No.ensures.value ∙ c.deref-in-Ok-No.ensures.0 ∙ c.fault_line.ensures in
    tells_no _ _ _ _ _ line c.tell-in-Ok-No.result (c.in-Ok-No.fault, search rules, is) c.tell-in-Ok-No.ensures
