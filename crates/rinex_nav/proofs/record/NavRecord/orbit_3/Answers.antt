use Rattle.rinex_nav.proofs.BoundLemmas.{one_more}
use Rattle.rinex_nav.proofs.record.NavRecord.orbit_3.Goals as goal

pub amount-requires-clause-before : goal.amount-requires-clause-before
amount-requires-clause-before c = one_more c.args.self.now.fields 11 c.requires c.in-Some.ensures.inside
