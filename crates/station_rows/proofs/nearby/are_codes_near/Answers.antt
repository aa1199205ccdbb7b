use Rattle.std.proofs.Common.{arith}
use Rattle.std.proofs.lemmas.Int.{ints}
use Rattle.station_rows.proofs.nearby.are_codes_near.Goals as goal

pub returns : goal.returns
returns c =
    let e = c.lies_in.ensures in
    let low = c.minus-apart.ensures.low in
    let high = c.minus-apart.ensures.high in
    let own = c.single.ensures in
    let theirs = c.single-2.ensures in (
      λ yes. let held = e.0 yes in record {
        from = omega (arith, ints, held.from, low, own.low, theirs.high);
        to = omega (arith, ints, held.to, high, own.high, theirs.low);
      },
      λ near. e.1 (record {
        from = omega (arith, ints, near.from, low, own.low, theirs.high);
        to = omega (arith, ints, near.to, high, own.high, theirs.low);
      }),
    )
