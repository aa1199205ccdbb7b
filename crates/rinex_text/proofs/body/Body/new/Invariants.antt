use Rattle.std.proofs.Common.{◌≡◌, ◌≤◌, ◌+◌, length}
use Rattle.rinex_text.specs.Bodies.{counted_behind}
use Rattle.rinex_text.specs.Reading.{lines_left}
use Rattle.rinex_text.proofs.body.Body.new.Given as goal

abbrev pub invariant-lines : goal.invariant-lines
invariant-lines l = record {
  counted : counted_behind 0 0 (lines_left l.fn.lines) ≡ counted_behind l.seen l.left (lines_left l.rest);
  room : l.seen + length l.rest.rest.now ≤ 4000000001;
}

abbrev pub decreases-lines : goal.decreases-lines
decreases-lines l = length l.rest.rest.now
