use Rattle.std.proofs.Common.{rules, set-set}
use Rattle.box_pool.proofs.links.fill.Goals as goal

pub read-requires : goal.read-requires
read-requires c = (c.requires.at, c.requires.filled c.if-place-used.true)

pub returns-clause-slots : goal.returns-clause-slots
returns-clause-slots c = search (rules, set-set)
