use Rattle.cover_run.proofs.MadeLemmas.{faultless, faultless_ends}
use Rattle.cover_run.proofs.making.read_faultless.Goals as goal

pub returns-clause-value : goal.returns-clause-value
returns-clause-value g c = λ w is.
    faultless (g.G.Grammar.text c.args.grammar.now) c.args.bytes.items w is c.read.result
    c.read.ensures.same

pub returns-clause-memory : goal.returns-clause-memory
returns-clause-memory g c =
    faultless_ends (g.G.Grammar.text c.args.grammar.now) c.args.bytes.items c.requires.faultless.0
    c.requires.faultless.1 c.read.result c.read.ensures.gives c.read.ensures.same
