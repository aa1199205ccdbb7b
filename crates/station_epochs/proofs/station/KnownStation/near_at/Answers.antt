use Rattle.std.proofs.Common.{arith, refl, length}
use Rattle.std.proofs.lemmas.Option.{slice_get_read}
use Rattle.station_epochs.proofs.station.KnownStation.near_at.Goals as goal

pub returns : goal.returns
returns c =
    let epochs = c.args.self.now.epochs.now in
    let found = c.in_ok-other.ensures.lookup in (
      (
        c.in_ok-other.other.now,
        record {
          at = slice_get_read epochs (length epochs) c.args.place c.in_ok-other.other.now refl found.3.0 found.1;
          apart_is = c.time_between-apart.ensures;
          near = omega (arith, c.if-apart-from.false, c.from.ensures);
        },
      ),
      refl,
    )
