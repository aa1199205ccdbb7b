use Rattle.std.proofs.Common.{refl}
use Rattle.station_rows.proofs.nearby.are_nearby.Goals as goal

pub returns-then-not-has_near_record : goal.returns-then-not-has_near_record
returns-then-not-has_near_record c = (
  λ yes. absurd cc,
  λ near. let e = (c.has_near_record.ensures c.args.common.now.system).1 near.receiver in let f = c.if-not-has_near_record.true in absurd cc,
)

pub returns-then-has_near_record : goal.returns-then-has_near_record
returns-then-has_near_record c =
    let system = c.args.common.now.system in (
      λ yes. record {
        receiver = (c.has_near_record.ensures system).0 c.if-not-has_near_record.false;
        station = (c.has_near_record-2.ensures system).0 c.if-has_near_record.true;
        system = refl;
        codes = c.are_pseudoranges_near.ensures.0 yes;
      },
      λ near. c.are_pseudoranges_near.ensures.1 near.codes,
    )

pub returns-else-has_near_record : goal.returns-else-has_near_record
returns-else-has_near_record c = (
  λ yes. let f = c.if-has_near_record.false in absurd cc,
  λ near. (c.has_near_record-2.ensures c.args.common.now.system).1 near.station,
)
