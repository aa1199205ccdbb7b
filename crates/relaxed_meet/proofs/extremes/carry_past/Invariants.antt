use Rattle.std.proofs.Common.{◌≡◌, length}
use Rattle.relaxed_meet.specs.Kept.{IsKeptUpTo}
use Rattle.relaxed_meet.proofs.extremes.carry_past.Given as goal

abbrev pub invariant-loop-place : goal.invariant-loop-place
invariant-loop-place l = record {
  kept : IsKeptUpTo l.place l.kept l.fn.kept l.carried l.fn.number;
  place_end : l.place-end ≡ length l.fn.kept;
}
