use Rattle.log_tokens.proofs.WordLemmas.{ended}
use Rattle.log_tokens.proofs.words.is_ended.Goals as goal

pub returns : goal.returns
returns c = ended c.args.rest c.is_none.result c.is_none.ensures
