use Rattle.std.proofs.Common.{append_assoc, refl}
use Rattle.cover_run.proofs.making_texts.made_lines.Goals as goal

pub returns : goal.returns
returns c =
    rw (
      c.push_str.ensures.bytes,
      c.push_count-7.ensures.pushed,
      c.total_of-4.ensures,
      c.push_count-6.ensures.pushed,
      c.total_of-3.ensures,
      c.push_count-5.ensures.pushed,
      c.total_of-2.ensures,
      c.push_count-4.ensures.pushed,
      c.total_of.ensures,
      c.push_count-3.ensures.pushed,
      c.usable_of.ensures,
      c.push_count-2.ensures.pushed,
      c.from-2.ensures,
      c.push_count.ensures.pushed,
      c.from.ensures,
      c.new-lines.ensures,
    ) (simp append_assoc refl)
