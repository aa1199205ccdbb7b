use Rattle.std.proofs.Common.{◌≡◌, ◌+◌, ◌*◌, length}
use Rattle.made_input.specs.MadeCodes.{AreMadeSats}
use Rattle.made_input.proofs.codes.epoch_codes.Given as goal

abbrev pub invariant-loop-number : goal.invariant-loop-number
invariant-loop-number l = record {
  seed : l.draws.seed ≡ l.fn.draws.seed;
  taken : l.draws.taken ≡ 10 + 8 * l.j + l.number;
  count : 1 + length l.sats.items ≡ l.number;
  sats : AreMadeSats l.receiver.seed l.j 1 l.sats.items;
}
