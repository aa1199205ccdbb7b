use Rattle.std.proofs.Common.{arith, sym}
use Rattle.paving_log_check.proofs.RenewalLemmas.{place_is, place_beyond}
use Rattle.paving_log_check.proofs.renewals.RenewalTest.is_of_place.Goals as goal

pub returns-then-self-i : goal.returns-then-self-i
returns-then-self-i c = (λ t. absurd cc, λ h. absurd (place_beyond c.args.self.now.firsts.now c.args.i c.args.row.now c.if-self-i.true h))

pub returns : goal.returns
returns c =
    place_is c.args.self.now.firsts.now c.args.i c.index-self-i.result c.args.row.now c.is_same_sat.result (omega (arith, c.if-self-i.false)) c.index-self-i.is
    (rw (sym c.index-self-i.is) at c.is_same_sat.ensures)
