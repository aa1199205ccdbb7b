use Rattle.zone_guard.proofs.WatchTextLemmas.{never_refused, always_refused}
use Rattle.zone_guard.proofs.watches.read_watches.Goals as goal

pub returns-clause-exact : goal.returns-clause-exact
returns-clause-exact c second watches are = never_refused c.read_either.result c.args.bytes.now second watches are c.read_either.ensures.fault

pub returns-clause-first : goal.returns-clause-first
returns-clause-first c line fails = always_refused c.read_either.result c.args.bytes.now line fails c.read_either.ensures.value c.read_either.ensures.fault
