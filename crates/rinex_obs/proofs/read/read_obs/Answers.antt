use Rattle.rinex_obs.proofs.read.read_obs.Goals as goal

pub returns-clause-records : goal.returns-clause-records
returns-clause-records c = c.read_obs_of.ensures.records

pub returns-clause-fault : goal.returns-clause-fault
returns-clause-fault c = c.read_obs_of.ensures.fault

pub returns-clause-exact : goal.returns-clause-exact
returns-clause-exact c = c.read_obs_of.ensures.exact

pub returns-clause-first : goal.returns-clause-first
returns-clause-first c = c.read_obs_of.ensures.first

pub returns-clause-settled : goal.returns-clause-settled
returns-clause-settled c = c.read_obs_of.ensures.settled

pub returns-clause-whole : goal.returns-clause-whole
returns-clause-whole c = c.read_obs_of.ensures.whole

pub returns-clause-numbered : goal.returns-clause-numbered
returns-clause-numbered c = c.read_obs_of.ensures.numbered

pub returns-clause-distinct : goal.returns-clause-distinct
returns-clause-distinct c = c.read_obs_of.ensures.distinct

pub returns-clause-gps : goal.returns-clause-gps
returns-clause-gps c = c.read_obs_of.ensures.named
