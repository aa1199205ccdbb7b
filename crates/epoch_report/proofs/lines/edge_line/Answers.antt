use Rattle.std.proofs.Common.{◌≡◌, append_assoc, arith, to_z, of_z}
use Rattle.std.specs.Int.{w64}
use Rattle.std.proofs.lemmas.Int.{ints}
use Rattle.epoch_report.proofs.lines.edge_line.Goals as goal

pub returns : goal.returns
returns c =
    let low : to_z w64 (of_z w64 c.args.lo) ≡ c.args.lo = omega (arith, ints) in
    let high : to_z w64 (of_z w64 c.args.hi) ≡ c.args.hi = omega (arith, ints) in
    rw (c.push_str-3.ensures.bytes, c.push_two.ensures.pushed, low, high, c.push_str-2.ensures.bytes, c.push_box.ensures.pushed, c.push_str.ensures.bytes, c.new-line.ensures) (simp append_assoc)
