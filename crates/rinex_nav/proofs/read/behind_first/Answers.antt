use Rattle.rinex_nav.proofs.read.behind_first.Goals as goal

pub returns : goal.returns
returns c = rw c.is_some.ensures at c.behind_version_of.ensures
