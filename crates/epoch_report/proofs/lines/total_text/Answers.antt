use Rattle.std.proofs.Common.{append_assoc}
use Rattle.epoch_report.proofs.lines.total_text.Goals as goal

pub returns : goal.returns
returns c =
    rw (c.push_str-5.ensures.bytes, c.push_count-4.ensures.pushed, c.push_str-4.ensures.bytes, c.push_count-3.ensures.pushed, c.push_str-3.ensures.bytes, c.push_count-2.ensures.pushed, c.push_str-2.ensures.bytes, c.push_count.ensures.pushed, c.push_str.ensures.bytes, c.new-line.ensures) (simp append_assoc)
