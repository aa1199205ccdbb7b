use Rattle.std.proofs.Common.{◌≡◌, ◌≤◌, length}
use Rattle.rinex_text.specs.Columns.{trimmed_length}
use Rattle.rinex_text.proofs.fields.without_blank_end.Given as goal

abbrev pub invariant-blanks : goal.invariant-blanks
invariant-blanks l = record {
  within : l.end ≤ length l.field;
  same : trimmed_length l.field (length l.field) ≡ trimmed_length l.field l.end;
}

abbrev pub decreases-blanks : goal.decreases-blanks
decreases-blanks l = l.end
