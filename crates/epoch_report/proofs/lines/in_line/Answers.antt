use Rattle.std.proofs.Common.{◌≡◌, append_assoc, arith, to_z, of_z}
use Rattle.std.specs.Int.{w64}
use Rattle.std.proofs.lemmas.Int.{ints}
use Rattle.epoch_report.proofs.lines.in_line.Goals as goal

pub returns : goal.returns
returns c =
    let same : to_z w64 (of_z w64 c.args.clock) ≡ c.args.clock = omega (arith, ints) in
    rw (c.push_str-3.ensures.bytes, c.push_metres.ensures.pushed, same, c.push_str-2.ensures.bytes, c.push_box.ensures.pushed, c.push_str.ensures.bytes, c.new-line.ensures) (simp append_assoc)
