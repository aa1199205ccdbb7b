use Rattle.command_words.proofs.StatedLemmas.{judge_taken, pave_taken, check_taken, make_taken}
use Rattle.command_words.proofs.QuietLemmas.{solve_taken}
use Rattle.command_words.proofs.TrackLemmas.{track_taken}
use Rattle.command_words.proofs.RetrackLemmas.{retrack_taken}
use Rattle.command_words.proofs.GuardLemmas.{guard_taken}
use Rattle.command_words.proofs.laws.stated_words_are_taken.Goals as goal

pub returns-clause-judge : goal.returns-clause-judge
returns-clause-judge c = judge_taken

pub returns-clause-pave : goal.returns-clause-pave
returns-clause-pave c = pave_taken

pub returns-clause-solve : goal.returns-clause-solve
returns-clause-solve c = solve_taken

pub returns-clause-check : goal.returns-clause-check
returns-clause-check c = check_taken

pub returns-clause-track : goal.returns-clause-track
returns-clause-track c = track_taken

pub returns-clause-retrack : goal.returns-clause-retrack
returns-clause-retrack c = retrack_taken

pub returns-clause-guard : goal.returns-clause-guard
returns-clause-guard c = guard_taken

pub returns-clause-make : goal.returns-clause-make
returns-clause-make c = make_taken
