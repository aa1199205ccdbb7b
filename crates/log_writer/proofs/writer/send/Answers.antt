use Rattle.std.proofs.Common.{take, refl, arith}
use Rattle.outer_io.proofs.Appending.{taking-none}
use Rattle.log_writer.proofs.writer.send.Goals as goal

pub returns-in-Err-clause-sends : goal.returns-in-Err-clause-sends
returns-in-Err-clause-sends g c =
    let b = c.in-Err.ensures in
    let (kept, at_most, appended) = b.prefix in (
      take kept c.args.log.now,
      (kept, refl),
      record { appended = appended; taken = taking-none _; openings = b.openings; log_faults = b.cause.later; out_faults = omega arith },
      b.cause.failed,
    )
