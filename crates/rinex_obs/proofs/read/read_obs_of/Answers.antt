use Rattle.std.proofs.Common.{false}
use Rattle.rinex_obs.proofs.FactLemmas.{numbered_read, distinct_read, named_read}
use Rattle.rinex_obs.proofs.KeptLemmas.{read_whole}
use Rattle.rinex_obs.proofs.OnlyLemmas.{gives_observations, gives_refusal}
use Rattle.rinex_obs.proofs.WholeLemmas.{whole_read}
use Rattle.rinex_obs.proofs.SettledLemmas.{settled_read}
use Rattle.rinex_obs.proofs.read.read_obs_of.Goals as goal

pub returns-clause-records : goal.returns-clause-records
returns-clause-records c = read_whole false c.args.sought.now c.args.position c.args.bytes.now c.read_text.result c.read_text.ensures.observations

pub returns-clause-exact : goal.returns-clause-exact
returns-clause-exact c = λ observations. gives_observations false c.args.sought.now c.args.position c.args.bytes.now observations c.read_text.result (returns-clause-records c) c.read_text.ensures.fault

pub returns-clause-first : goal.returns-clause-first
returns-clause-first c = λ r. gives_refusal false c.args.sought.now c.args.position c.args.bytes.now r c.read_text.result (returns-clause-records c) c.read_text.ensures.fault

pub returns-clause-numbered : goal.returns-clause-numbered
returns-clause-numbered c = numbered_read false c.args.sought.now c.args.position c.args.bytes.now c.read_text.result (returns-clause-records c)

pub returns-clause-distinct : goal.returns-clause-distinct
returns-clause-distinct c = distinct_read false c.args.sought.now c.args.position c.args.bytes.now c.read_text.result (returns-clause-records c)

pub returns-clause-named : goal.returns-clause-named
returns-clause-named c = named_read false c.args.sought.now c.args.position c.args.bytes.now c.read_text.result (returns-clause-records c)

pub returns-clause-whole : goal.returns-clause-whole
returns-clause-whole c = whole_read false c.args.sought.now c.args.position c.args.bytes.now c.read_text.result (returns-clause-records c)

pub returns-clause-settled : goal.returns-clause-settled
returns-clause-settled c = settled_read false c.args.sought.now c.args.position c.args.bytes.now c.read_text.result c.read_text.ensures.fault
