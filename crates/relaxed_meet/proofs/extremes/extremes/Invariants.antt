use Rattle.std.proofs.Common.{map, take}
use Rattle.relaxed_meet.specs.Kept.{Keeps, mirrored}
use Rattle.relaxed_meet.proofs.extremes.extremes.Given as goal

abbrev pub invariant-loop-span : goal.invariant-loop-span
invariant-loop-span l = record {
  lows : Keeps l.most l.lows.items (map (λ s. s.lo) (take l.span-index l.spans));
  highs : Keeps l.most l.highs.items (map (λ s. mirrored s.hi) (take l.span-index l.spans));
}
