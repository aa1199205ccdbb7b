use Rattle.zone_guard.specs.declared.watch.Watch.{Watch}
use Rattle.zone_guard.proofs.NameLemmas.{IsLeft}
use Rattle.zone_guard.proofs.names.is_name_taken.Given as goal

abbrev pub invariant-loop-watch : goal.invariant-loop-watch
invariant-loop-watch l = IsLeft (λ (x : Watch). x.name.bytes) l.watches l.name.bytes l.watch-index
