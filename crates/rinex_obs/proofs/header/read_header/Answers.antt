use Rattle.std.proofs.Common.{refl}
use Rattle.rinex_obs.specs.Files.{unread}
use Rattle.rinex_obs.proofs.HeaderLemmas.{line_step, line_fault, end_fault, none_known}
use Rattle.rinex_obs.proofs.header.read_header.Goals as goal
use Rattle.std.proofs.lemmas.Bool.{both_ways}

pub header-init : goal.header-init
header-init c = (unread, record { gps = tt; galileo = none_known c.args.sought.now.galileo; position = refl }, λ answer h. h)

pub returns-in-Err-clause-fault : goal.returns-in-Err-clause-fault
returns-in-Err-clause-fault c =
    let inv = c.header.invariant in
    rw c.new-in-Err.ensures
    (inv.2 _ (end_fault _ _ inv.0 _ _ _ _ c.in-Some.ensures.line _ (c.is_short.ensures.0 c.if-not-is_short.false) (c.is_labelled.ensures.0 c.if-is_labelled.true) (c.in-Err.ensures inv.0 inv.1)))

pub returns-in-Err-header_line-clause-fault : goal.returns-in-Err-header_line-clause-fault
returns-in-Err-header_line-clause-fault c =
    let inv = c.header.invariant in
    rw c.new-in-Err-header_line.ensures
    (inv.2 _ (line_fault _ _ inv.0 _ _ _ _ c.in-Some.ensures.line _ (c.is_short.ensures.0 c.if-not-is_short.false) (λ l. both_ways _ c.if-is_labelled.false (c.is_labelled.ensures.1 l))
    (c.in-Err-header_line.ensures inv.0 inv.1)))

pub header-preserved : goal.header-preserved
header-preserved c =
    let inv = c.header.invariant in
    let s = c.in-Ok-header_line.ensures inv.0 inv.1 in (
      s.0,
      s.2,
      λ answer h. inv.2 answer (line_step _ _ inv.0 _ _ _ _ c.in-Some.ensures.line s.0 _ answer c.in-Some.ensures.number (c.is_short.ensures.0 c.if-not-is_short.false)
          (λ l. both_ways _ c.if-is_labelled.false (c.is_labelled.ensures.1 l)) s.1 h),
    )
