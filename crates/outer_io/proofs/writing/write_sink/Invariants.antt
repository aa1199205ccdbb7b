use Rattle.std.proofs.Common.{length, ◌-◌, ◌≡◌, ◌≤◌, take}
use Rattle.outer_io.specs.Taken.{TakenBy}
use Rattle.outer_io.proofs.writing.write_sink.Given as goal

abbrev pub invariant-loop-done : goal.invariant-loop-done
invariant-loop-done g l = record {
  within : l.done ≤ length l.bytes;
  taken : TakenBy (g.O.Sink.state l.fn.sink) (g.O.Sink.state l.sink) (take l.done l.bytes);
  later : (g.O.Sink.state l.fn.sink).faults ≤ (g.O.Sink.state l.sink).faults;
  reliable : g.O.Sink.reliable l.sink
      → g.O.Sink.reliable l.fn.sink × ((g.O.Sink.state l.sink).faults ≡ (g.O.Sink.state l.fn.sink).faults);
}

abbrev pub decreases-loop-done : goal.decreases-loop-done
decreases-loop-done g l = length l.bytes - l.done
