use Rattle.std.proofs.Common.{◌≡◌, ℕ, ◌≤◌, ◌<◌, ◌-◌, length, Some, slice_get}
use Rattle.std.specs.Prelude.{◌≤ℤ◌, ◌<ℤ◌}
use Rattle.rinex_obs.specs.declared.obs.ObsEpoch.{ObsEpoch}
use Rattle.station_epochs.proofs.station.KnownStation.count_until.Given as goal

abbrev pub invariant-halving : goal.invariant-halving
invariant-halving l = record {
  order : l.low ≤ l.high;
  within : l.high ≤ length l.self.epochs.now;
  before : (i : ℕ) (e : ObsEpoch) → slice_get l.self.epochs.now i ≡ Some e → i < l.low → e.tag ≤ℤ l.epoch.tag;
  behind : (i : ℕ) (e : ObsEpoch) → slice_get l.self.epochs.now i ≡ Some e → l.high ≤ i → l.epoch.tag <ℤ e.tag;
}

abbrev pub decreases-halving : goal.decreases-halving
decreases-halving l = l.high - l.low
