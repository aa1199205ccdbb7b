use Rattle.range_contractor.proofs.BoxLemmas.{box_lies}
use Rattle.range_contractor.proofs.FaceLemmas.{proposal}
use Rattle.range_contractor.proofs.contraction.contract.Goals as goal

pub returns : goal.returns
returns g c = search (proposal, box_lies)
