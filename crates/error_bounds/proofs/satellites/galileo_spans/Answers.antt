use Rattle.std.proofs.Common.{arith}
use Rattle.error_bounds.proofs.OrderLemmas.{none_listed, listed_later}
use Rattle.error_bounds.proofs.satellites.galileo_spans.Goals as goal

pub returns-in-Ok-clause-listed : goal.returns-in-Ok-clause-listed
returns-in-Ok-clause-listed c = listed_later 69 71 100 1 _ (omega arith) (omega arith) (c.in-Ok.ensures.listed (rw c.new-spans.ensures.items (none_listed _)))
