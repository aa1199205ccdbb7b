use Rattle.std.proofs.Common.{arith, sym, subst, ◌+◌, ◌-◌, ◌/◌}
use Rattle.std.specs.Prelude.{◌≤ℤ◌, ◌<ℤ◌}
use Rattle.rinex_obs.specs.declared.obs.ObsEpoch.{ObsEpoch}
use Rattle.station_epochs.proofs.NearestLemmas.{middle_under, before_grows, behind_grows}
use Rattle.station_epochs.proofs.station.KnownStation.count_until.Goals as goal

pub halving-preserved : goal.halving-preserved
halving-preserved c =
    let inv = c.halving.invariant in
    let under = middle_under c.halving.low c.halving.high c.halving-test.true in
    let up = subst (λ (x : ObsEpoch). x.tag ≤ℤ c.args.epoch.now.tag) (sym c.index-self-middle.is) (c.is_later.ensures.other c.if-is_later.false) in
    record {
      order = omega (arith, under);
      within = inv.within;
      before = before_grows c.args.self.now.epochs.now c.args.epoch.now.tag (c.halving.low + (c.halving.high - c.halving.low) / 2) c.index-self-middle.result c.args.self.now.rising (omega (arith, under, inv.within)) c.index-self-middle.is up;
      behind = inv.behind;
    }

pub halving-preserved-then-is_later : goal.halving-preserved-then-is_later
halving-preserved-then-is_later c =
    let inv = c.halving.invariant in
    let under = middle_under c.halving.low c.halving.high c.halving-test.true in
    let later = subst (λ (x : ObsEpoch). c.args.epoch.now.tag <ℤ x.tag) (sym c.index-self-middle.is) (c.is_later.ensures.later c.if-is_later.true) in
    record {
      order = omega arith;
      within = omega (arith, under, inv.within);
      before = inv.before;
      behind = behind_grows c.args.self.now.epochs.now c.args.epoch.now.tag (c.halving.low + (c.halving.high - c.halving.low) / 2) c.index-self-middle.result c.args.self.now.rising (omega (arith, under, inv.within)) c.index-self-middle.is later;
    }
