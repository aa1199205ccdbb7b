use Rattle.std.proofs.Common.{arith}
use Rattle.made_input.proofs.FitLemmas.{usable_in_each}
use Rattle.made_input.proofs.fits.satellites_are_usable.Goals as goal

pub returns : goal.returns
returns c seed count made records settings m few read value =
    usable_in_each seed records settings read value 1 0 m.epochs m.epochs_are (omega (arith, m.count_is, few))
