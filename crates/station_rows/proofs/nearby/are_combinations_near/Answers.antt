use Rattle.station_rows.proofs.nearby.are_combinations_near.Goals as goal

pub returns : goal.returns
returns c =
    let e = c.lies_in.ensures in
    let most = c.combinations_apart-most.ensures in
    let apart = c.minus-apart.ensures in (
      λ yes. let held = e.0 yes in record {
        from = rw (apart.low, most.low) at held.from;
        to = rw (apart.high, most.high) at held.to;
      },
      λ near. e.1 (record { from = rw (apart.low, most.low) near.from; to = rw (apart.high, most.high) near.to }),
    )
