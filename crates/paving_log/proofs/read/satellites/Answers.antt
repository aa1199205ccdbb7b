use Rattle.std.proofs.Common.{◌≡◌, length, arith}
use Rattle.paving_log.proofs.BlockLemmas.{sat_taken, root_taken}
use Rattle.paving_log.proofs.read.satellites.Goals as goal

pub satellites-preserved : goal.satellites-preserved
satellites-preserved c =
    let count : c.len.result ≡ length c.satellites.sats.items = omega arith in
    sat_taken c.args.form c.args.n c.args.lines c.satellites.left c.in_ok-line.behind c.satellites.sats.items c.push.new.self.items c.in-Sat.entry c.in_ok-line.line c.len.result c.in_ok-line.field-0-1
    c.satellites.invariant.0 count c.in-Sat.is c.in_ok-line.ensures.taken c.in_ok-push-in-Sat.ensures.items

pub returns-in-Root-clause-taken : goal.returns-in-Root-clause-taken
returns-in-Root-clause-taken c =
    let count : c.len.result ≡ length c.satellites.sats.items = omega arith in
    root_taken c.args.form c.args.n c.args.lines c.satellites.left c.in_ok-line.behind c.satellites.sats.items c.in-Root.corners c.in_ok-line.line c.len.result c.in_ok-line.field-0-1
    c.satellites.invariant.0 count c.in-Root.is c.in_ok-line.ensures.taken
