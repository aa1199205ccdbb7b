use Rattle.std.proofs.Common.{inr, refl}
use Rattle.rinex_nav.proofs.read.kept.Goals as goal

pub returns : goal.returns
returns c = inr ((λ kept. let e = c.is_kept.ensures.1 kept in let f = c.if-is_kept.false in cc), refl)
