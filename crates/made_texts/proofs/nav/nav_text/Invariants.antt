use Rattle.std.proofs.Common.{◌≡◌, ◌++◌, drop}
use Rattle.made_texts.specs.TextLines.{text_of}
use Rattle.made_texts.specs.NavText.{body_lines, nav_lines}
use Rattle.made_texts.proofs.nav.nav_text.Given as goal

abbrev pub invariant-records : goal.invariant-records
invariant-records l = l.text.items ++ text_of (body_lines (drop l.record-index l.records)) ≡ text_of (nav_lines l.records)
