use Rattle.std.proofs.Common.{inl, inr, refl}
use Rattle.cover_run.proofs.guarding.tell_findings.Goals as goal

pub returns-in-Ok : goal.returns-in-Ok
returns-in-Ok g c = inl (refl, (c.in-Ok.ensures.taken, refl))

pub returns-in-Err : goal.returns-in-Err
returns-in-Err g c =
    let cut = c.in-Err.ensures in
    inr (
      c.say.ensures.status,
      record {
        prefix = cut.prefix;
        rose = cut.rose;
        unreliable = cut.unreliable;
        said = c.say.ensures.line;
      },
    )
