use Rattle.std.proofs.Common.{List, map, Result, length, ◌≤◌}
use Rattle.rinex_text.specs.Reading.{body_left}
use Rattle.rinex_text.specs.declared.fault.Refusal.{Refusal}
use Rattle.rinex_nav.specs.Files.{records_from}
use Rattle.rinex_nav.specs.Index.{IsIndex}
use Rattle.rinex_nav.specs.Reading.{plain_record, with_all}
use Rattle.rinex_nav.specs.Records.{Broadcast}
use Rattle.rinex_nav.proofs.read.read_records.Given as goal

-- what the lines that are left give, behind the records so far, is what all give
abbrev pub invariant-lines : goal.invariant-lines
invariant-lines l = record {
  reads : (answer : Result (List Broadcast) Refusal)
      → records_from l.galileo l.count l.left.lines.number 0 (body_left l.left) answer
      → records_from l.galileo 0 l.fn.body.lines.number 0 (body_left l.fn.body) (with_all (map plain_record l.records.items) answer);
  few : l.count ≤ 200000;
  kept : length l.records.items ≤ l.count;
  index : IsIndex l.places l.records.items;
}

abbrev pub decreases-lines : goal.decreases-lines
decreases-lines l = l.left.left
