use Rattle.std.proofs.Common.{◌≡◌, ◌+◌}
use Rattle.made_input.proofs.RecordLemmas.{AreMade}
use Rattle.made_input.proofs.record_list.made_records.Given as goal

abbrev pub invariant-loop-k : goal.invariant-loop-k
invariant-loop-k l = record {
  seed : l.draws.seed ≡ l.fn.draws.seed;
  taken : l.draws.taken ≡ 2 + l.k;
  made : AreMade l.records.items l.fn.draws.seed l.k;
}
