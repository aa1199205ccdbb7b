use Rattle.std.proofs.Common.{append_assoc}
use Rattle.grid_model.proofs.PlainLemmas.{uncast_end}
use Rattle.epoch_report.proofs.lines.push_box.Goals as goal

pub returns-clause-pushed : goal.returns-clause-pushed
returns-clause-pushed c =
    let part = c.args.part.now in
    rw (c.push_two-3.ensures.pushed, c.push_two-2.ensures.pushed, c.push_two.ensures.pushed, uncast_end part.lo.x part.lo_within.0, uncast_end part.hi.x part.hi_within.0, uncast_end part.lo.y part.lo_within.1, uncast_end part.hi.y part.hi_within.1, uncast_end part.lo.z part.lo_within.2, uncast_end part.hi.z part.hi_within.2) (simp append_assoc)
