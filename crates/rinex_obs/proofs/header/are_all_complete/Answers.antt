use Rattle.rinex_obs.proofs.HeaderLemmas.{as_found}
use Rattle.rinex_obs.proofs.header.are_all_complete.Goals as goal

pub returns : goal.returns
returns c = λ known h.
    let s = as_found c.args.sought.now.gps c.args.sought.now.galileo known.galileo c.args.header.galileo h.galileo in
    let gps = c.are_complete.ensures c.args.sought.now.gps known.gps h.gps in
    let galileo = c.are_complete-2.ensures s.0 known.galileo s.1 in
    (λ is. (gps.0 c.if-not-are_complete.false, galileo.0 is), λ both. galileo.1 both.1)
