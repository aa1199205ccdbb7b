use Rattle.gnss_model.proofs.SpareLemmas.{spare_most}
use Rattle.gnss_model.proofs.spares.spread.Goals as goal

pub returns-clause-most : goal.returns-clause-most
returns-clause-most c = spare_most c.args.layer c.args.amount c.args.side c.requires.amount c.requires.side
