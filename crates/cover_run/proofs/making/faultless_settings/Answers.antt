use Rattle.cover_run.proofs.making.faultless_settings.Goals as goal

pub unreachable-requires : goal.unreachable-requires
unreachable-requires c =
    let memory = c.in-Err-Refused.ensures.exact c.requires.faultless.0 c.requires.faultless.1 in
    let refused = c.in-Err-Refused.field-0-is in cc
