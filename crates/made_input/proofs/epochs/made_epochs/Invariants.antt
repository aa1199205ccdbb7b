use Rattle.std.proofs.Common.{◌≡◌, ◌+◌, ◌*◌, length}
use Rattle.made_input.specs.MadeCodes.{AreMadeEpochs}
use Rattle.made_input.proofs.epochs.made_epochs.Given as goal

abbrev pub invariant-loop-j : goal.invariant-loop-j
invariant-loop-j l = record {
  seed : l.draws.seed ≡ l.fn.draws.seed;
  taken : l.draws.taken ≡ 11 + 8 * l.j;
  count : length l.epochs.items ≡ l.j;
  epochs : AreMadeEpochs l.receiver.seed 0 l.epochs.items;
}
