use Rattle.std.proofs.Common.{arith}
use Rattle.std.proofs.lemmas.Int.{ints}
use Rattle.made_input.proofs.TimeLemmas.{tag_is}
use Rattle.made_input.proofs.codes.tag.Goals as goal

pub returns : goal.returns
returns c = rw (tag_is c.args.j) (omega (arith, ints, c.from.ensures, c.requires))
