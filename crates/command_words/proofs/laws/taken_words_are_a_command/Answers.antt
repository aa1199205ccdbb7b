use Rattle.command_words.proofs.SaidLemmas.{taken_says}
use Rattle.command_words.proofs.laws.taken_words_are_a_command.Goals as goal

pub returns : goal.returns
returns c = taken_says
