use Rattle.row_pairs.proofs.proposal.+depth_at.Given as goal

abbrev pub decreases-depth_at : goal.decreases-depth_at
decreases-depth_at l = l.q
