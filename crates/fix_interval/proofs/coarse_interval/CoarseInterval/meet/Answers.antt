use Rattle.std.proofs.Common.{◌≡◌, arith, to_z, of_z, w64}
use Rattle.std.proofs.lemmas.Int.{ints, clamps}
use Rattle.fix_interval.proofs.coarse_interval.CoarseInterval.meet.Goals as goal

pub returns-then-lo-hi : goal.returns-then-lo-hi
returns-then-lo-hi c =
    let al : to_z w64 (of_z w64 c.args.self.lo) ≡ c.args.self.lo = omega (arith, ints) in
    let bl : to_z w64 (of_z w64 c.args.other.lo) ≡ c.args.other.lo = omega (arith, ints) in
    let ah : to_z w64 (of_z w64 c.args.self.hi) ≡ c.args.self.hi = omega (arith, ints) in
    let bh : to_z w64 (of_z w64 c.args.other.hi) ≡ c.args.other.hi = omega (arith, ints) in
    let x = rw (al, bl) at c.max-lo.ensures.value in
    let y = rw (ah, bh) at c.min-hi.ensures.value in
    (omega (arith, ints, clamps, x), omega (arith, ints, clamps, y))

pub returns-else-lo-hi : goal.returns-else-lo-hi
returns-else-lo-hi c =
    let al : to_z w64 (of_z w64 c.args.self.lo) ≡ c.args.self.lo = omega (arith, ints) in
    let bl : to_z w64 (of_z w64 c.args.other.lo) ≡ c.args.other.lo = omega (arith, ints) in
    let ah : to_z w64 (of_z w64 c.args.self.hi) ≡ c.args.self.hi = omega (arith, ints) in
    let bh : to_z w64 (of_z w64 c.args.other.hi) ≡ c.args.other.hi = omega (arith, ints) in
    let x = rw (al, bl) at c.max-lo.ensures.value in
    let y = rw (ah, bh) at c.min-hi.ensures.value in
    omega (arith, ints, clamps, x, y, c.if-lo-hi.false)
