use Rattle.made_texts.proofs.obs.+push_blanks.Given as goal

abbrev pub decreases-push_blanks : goal.decreases-push_blanks
decreases-push_blanks l = l.count
