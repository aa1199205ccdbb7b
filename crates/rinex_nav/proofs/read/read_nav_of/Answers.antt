use Rattle.rinex_nav.proofs.OnlyLemmas.{gives_records, gives_refusal}
use Rattle.rinex_nav.proofs.WholeLemmas.{whole_read}
use Rattle.rinex_nav.proofs.SettledLemmas.{settled_read}
use Rattle.rinex_nav.proofs.read.read_nav_of.Goals as goal

pub returns-clause-exact : goal.returns-clause-exact
returns-clause-exact c = λ records. gives_records c.args.galileo c.args.bytes.now records c.read_text.result c.read_text.ensures.records c.read_text.ensures.fault

pub returns-clause-first : goal.returns-clause-first
returns-clause-first c = λ r. gives_refusal c.args.galileo c.args.bytes.now r c.read_text.result c.read_text.ensures.records c.read_text.ensures.fault

pub returns-clause-whole : goal.returns-clause-whole
returns-clause-whole c = whole_read c.args.galileo c.args.bytes.now c.read_text.result c.read_text.ensures.records

pub returns-clause-settled : goal.returns-clause-settled
returns-clause-settled c = settled_read c.args.galileo c.args.bytes.now c.read_text.result c.read_text.ensures.fault
