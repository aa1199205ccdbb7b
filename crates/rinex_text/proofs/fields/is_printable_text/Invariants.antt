use Rattle.std.proofs.Common.{◌≡◌, take}
use Rattle.std.specs.List.{list_all}
use Rattle.rinex_text.specs.Bodies.{is_printable}
use Rattle.rinex_text.proofs.fields.is_printable_text.Given as goal

abbrev pub invariant-loop-byte : goal.invariant-loop-byte
invariant-loop-byte l = l.printable ≡ list_all is_printable (take l.byte-index l.text)
