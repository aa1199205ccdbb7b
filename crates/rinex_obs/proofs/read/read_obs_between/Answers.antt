use Rattle.std.proofs.Common.{false}
use Rattle.rinex_obs.proofs.KeptLemmas.{gives_between, between_refusal, between_whole, between_rising, between_distinct, between_named}
use Rattle.rinex_obs.proofs.SettledLemmas.{settled_read}
use Rattle.rinex_obs.proofs.read.read_obs_between.Goals as goal

pub returns-clause-exact : goal.returns-clause-exact
returns-clause-exact c = λ all. gives_between false c.args.sought.now c.args.position c.args.bytes.now c.args.from c.args.to all c.read_text.result c.read_text.ensures.observations c.read_text.ensures.fault

pub returns-clause-first : goal.returns-clause-first
returns-clause-first c = λ r. between_refusal false c.args.sought.now c.args.position c.args.bytes.now c.args.from c.args.to r c.read_text.result c.read_text.ensures.observations c.read_text.ensures.fault

pub returns-clause-settled : goal.returns-clause-settled
returns-clause-settled c = settled_read false c.args.sought.now c.args.position c.args.bytes.now c.read_text.result c.read_text.ensures.fault

pub returns-clause-whole : goal.returns-clause-whole
returns-clause-whole c = between_whole false c.args.sought.now c.args.position c.args.bytes.now c.args.from c.args.to c.read_text.result c.read_text.ensures.observations

pub returns-clause-rising : goal.returns-clause-rising
returns-clause-rising c = between_rising false c.args.sought.now c.args.position c.args.bytes.now c.args.from c.args.to c.read_text.result c.read_text.ensures.observations

pub returns-clause-distinct : goal.returns-clause-distinct
returns-clause-distinct c = between_distinct false c.args.sought.now c.args.position c.args.bytes.now c.args.from c.args.to c.read_text.result c.read_text.ensures.observations

pub returns-clause-named : goal.returns-clause-named
returns-clause-named c = between_named false c.args.sought.now c.args.position c.args.bytes.now c.args.from c.args.to c.read_text.result c.read_text.ensures.observations
