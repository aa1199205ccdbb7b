-- A satellite that is usable by both is known by one view, and this is near enough for a row.
use Rattle.std.proofs.Common.{◌≡◌, ℕ, ◌+◌, ◌*◌, ◌^◌, ◌≤◌, arith, refl, sym, ap, subst, ◌∙◌, None, Some, slice_get}
use Rattle.std.specs.Prelude.{ℤ, pos, ◌-ℤ◌, ◌≤ℤ◌, ◌<ℤ◌, unsigned_abs}
use Rattle.std.proofs.lemmas.Option.{none-some, same_Some}
use Rattle.gnss_model.specs.Pseudorange.{Codes}
use Rattle.gnss_model.specs.RecordBounds.{time_bound}
use Rattle.gnss_model.specs.declared.delays.Delays.{Delays}
use Rattle.gnss_model.specs.declared.elements.Elements.{Elements}
use Rattle.gnss_model.specs.declared.systems.System.{System}
use Rattle.grid_model.specs.Boxes.{GridBox}
use Rattle.grid_model.specs.declared.boxes.Pos.{Pos}
use Rattle.rinex_obs.specs.declared.obs.ObsEpoch.{ObsEpoch}
use Rattle.rinex_obs.specs.declared.obs.SatObs.{SatObs}
use Rattle.sat_rows.specs.RowSizes.{AreNarrow, IsNearEpoch}
use Rattle.sat_rows.proofs.RowLemmas.{known_near, known_near_at, narrow_codes}
use Rattle.error_bounds.specs.Sizes.{IsNearGround}
use Rattle.station_epochs.specs.Stations.{Station, IsInTime, IsStationEpoch}
use Rattle.station_rows.specs.Differences.{CommonView}
use Rattle.station_rows.specs.Judgements.{IsItsObservation, IsKnownByBoth}
use Rattle.station_rows.specs.Nearby.{AreNearby}
use Rattle.station_rows.specs.Stations.{IsSeenByStation, IsFarOff, common_view, observed_in}
use Rattle.station_rows.specs.declared.observations.Observation.{Observation}
use Rattle.usable_sats.specs.Judgements.{IsKnownBy}
use Rattle.usable_sats.specs.Measured.{codes_of}
use Rattle.usable_sats.specs.Usability.{Sighting, HaveValue, ArePlausible, IsHigh, IsUsable}
use Rattle.usable_sats.proofs.JudgementLemmas.{value_one, codes_one, elements_one}

-- ---- one view

epoch_one : (station : Station) (tag : ℤ) (e f : ObsEpoch) → IsStationEpoch station tag e
    → IsStationEpoch station tag f → e ≡ f
epoch_one station tag e f m n =
    let apart : m.apart ≡ n.apart = omega (arith, m.least n.i f n.apart n.in_time, n.least m.i e m.apart m.in_time) in
    let up = m.last n.i f (subst (λ (k : ℕ). IsInTime station tag n.i f k) (sym apart) n.in_time) in
    let down = n.last m.i e (subst (λ (k : ℕ). IsInTime station tag m.i e k) apart m.in_time) in
    let place : m.i ≡ n.i = omega (arith, up, down) in
    same_Some e f (sym m.in_time.at ∙ (ap (slice_get station.epochs) place ∙ n.in_time.at))

-- the view by one record of what both observed
abbrev pub viewed : System → ℤ → ℤ → Codes → Codes → Elements → Pos → CommonView
viewed system tag other codes other_codes el place = record {
  receiver = record { system = system; tag = tag; codes = codes; el = el };
  station = record { system = system; tag = other; codes = other_codes; el = el };
  place = place;
}

viewed_one : (system other : System) (tag own time late : ℤ) (c d v w : Codes) (el used : Elements) (place : Pos)
    → system ≡ other → tag ≡ own → time ≡ late → c ≡ v → d ≡ w → el ≡ used
    → viewed system tag time c d el place ≡ viewed other own late v w used place
viewed_one system other tag own time late c d v w el used place s r t e f g =
    λ i. viewed (s i) (r i) (t i) (e i) (f i) (g i) place

module _ (station : Station) (a : Sighting) where
  pub view_one : (u v : IsUsable a) (s t : IsSeenByStation station a)
      → common_view station a u s ≡ common_view station a v t
  view_one u v s t =
      let epoch = epoch_one station a.tag s.epoch t.epoch s.epoch_is t.epoch_is in
      let seen = same_Some s.seen t.seen (sym s.seen_is ∙ (ap (λ (e : ObsEpoch). observed_in a.seen.sat e.sats.items) epoch ∙ t.seen_is)) in
      let codes = value_one a.signal t.seen s.measured.codes t.measured.codes (subst (λ (o : SatObs). HaveValue a.signal o s.measured.codes) seen s.measured.values) t.measured.values in
      viewed_one a.system a.system a.tag a.tag s.epoch.tag t.epoch.tag u.measured.codes s.measured.codes v.measured.codes t.measured.codes u.el v.el station.place
      refl refl (ap (λ (e : ObsEpoch). e.tag) epoch) (codes_one a u v) codes (elements_one a u v)

  -- ---- a satellite that the station lacks, or has with no code in range

  pub lacks_sat : (e : ObsEpoch) → IsStationEpoch station a.tag e
      → observed_in a.seen.sat e.sats.items ≡ None → IsSeenByStation station a → ⊥
  lacks_sat e is none s =
      none-some s.seen (sym none ∙ (ap (λ (f : ObsEpoch). observed_in a.seen.sat f.sats.items) (epoch_one station a.tag e s.epoch is s.epoch_is) ∙ s.seen_is))

  pub lacks_codes : (e : ObsEpoch) (seen : SatObs) → IsStationEpoch station a.tag e
      → observed_in a.seen.sat e.sats.items ≡ Some seen
      → ((codes : Codes) → HaveValue a.signal seen codes → ArePlausible a.system codes → ⊥)
      → IsSeenByStation station a → ⊥
  lacks_codes e seen is found none s =
      let same = same_Some s.seen seen (sym s.seen_is ∙ (ap (λ (f : ObsEpoch). observed_in a.seen.sat f.sats.items) (epoch_one station a.tag s.epoch e s.epoch_is is) ∙ found)) in
      none s.measured.codes (subst (λ (o : SatObs). HaveValue a.signal o s.measured.codes) same s.measured.values) s.measured.plausible

-- ---- a satellite that both observed

module _ (station : Station) (a : Sighting) (codes : Codes) (el : Elements) (own : IsKnownBy a codes el)
    (o : Observation) (theirs : IsItsObservation station a o) (system : System) (system_is : system ≡ a.system)
    (tag : ℤ) (tag_is : tag ≡ a.tag) where
  abbrev pub their_view : CommonView
  their_view = viewed system tag o.tag codes (codes_of o.codes) el station.place

  their_view_is : common_view station a own.usable theirs.seen ≡ their_view
  their_view_is = viewed_one a.system system a.tag tag theirs.seen.epoch.tag o.tag own.usable.measured.codes theirs.seen.measured.codes codes (codes_of o.codes) own.usable.el el station.place
      (sym system_is) (sym tag_is) theirs.tag_is own.codes_are theirs.codes_are own.el_is

  pub their_codes : ArePlausible system (codes_of o.codes)
  their_codes = subst (λ (y : System). ArePlausible y (codes_of o.codes)) (sym system_is) (subst (ArePlausible a.system) theirs.codes_are theirs.seen.measured.plausible)

  pub known_by_both : (delays : Delays) (root : GridBox) → IsHigh delays root → AreNearby their_view
      → IsKnownByBoth delays root station a their_view
  known_by_both delays root high near = record { usable = own.usable; high = high; seen = theirs.seen; view_is = their_view_is; nearby = near }

  pub far_off : (delays : Delays) (root : GridBox) → IsHigh delays root → (AreNearby their_view → ⊥)
      → IsFarOff delays root station a (record { number = 9; field = 0 })
  far_off delays root high far = record {
    usable = own.usable;
    high = high;
    seen = theirs.seen;
    far = λ u s near. far (subst AreNearby (view_one station a u own.usable s theirs.seen ∙ their_view_is) near);
    number = refl;
    field = refl;
  }

-- ---- what is known of it

module _ (delays : Delays) (root : GridBox) (station : Station) (a : Sighting) (view : CommonView)
    (known : IsKnownByBoth delays root station a view) where
  abbrev its : IsKnownBy a known.usable.measured.codes known.usable.el
  its = record { usable = known.usable; codes_are = refl; el_is = refl }

  -- each fact on both observations is one on the view
  of_view : (Meets : CommonView → Type 0) → Meets (common_view station a known.usable known.seen)
      → Meets view
  of_view Meets h = subst Meets known.view_is h

  pub receiver_from : pos 0 ≤ℤ a.tag → pos 0 ≤ℤ view.receiver.tag
  receiver_from h = of_view (λ v. pos 0 ≤ℤ v.receiver.tag) h

  pub receiver_under : a.tag <ℤ pos time_bound → view.receiver.tag <ℤ pos time_bound
  receiver_under h = of_view (λ v. v.receiver.tag <ℤ pos time_bound) h

  pub known_ground : IsNearGround station.place → IsNearGround view.place
  known_ground h = of_view (λ v. IsNearGround v.place) h

  pub station_from : pos 0 ≤ℤ view.station.tag
  station_from = of_view (λ v. pos 0 ≤ℤ v.station.tag) known.seen.epoch.tag_from

  pub station_under : view.station.tag <ℤ pos time_bound
  station_under = of_view (λ v. v.station.tag <ℤ pos time_bound) known.seen.epoch.tag_under

  pub receiver_plausible : ArePlausible view.receiver.system view.receiver.codes
  receiver_plausible = of_view (λ v. ArePlausible v.receiver.system v.receiver.codes) known.usable.measured.plausible

  pub station_plausible : ArePlausible view.station.system view.station.codes
  station_plausible = of_view (λ v. ArePlausible v.station.system v.station.codes) known.seen.measured.plausible

  pub receiver_narrow : AreNarrow view.receiver.codes
  receiver_narrow = of_view (λ v. AreNarrow v.receiver.codes) (narrow_codes a.signal a.seen known.usable.measured.codes known.usable.measured.values)

  pub station_narrow : AreNarrow view.station.codes
  station_narrow = of_view (λ v. AreNarrow v.station.codes) (narrow_codes a.signal known.seen.seen known.seen.measured.codes known.seen.measured.values)

  pub receiver_near : a.max_age ≤ 14400 → IsNearEpoch view.receiver.el view.receiver.tag
  receiver_near short = of_view (λ v. IsNearEpoch v.receiver.el v.receiver.tag) (known_near a known.usable.measured.codes known.usable.el its short)

  pub station_near : a.max_age + station.age ≤ 14400 → IsNearEpoch view.station.el view.station.tag
  station_near short =
      let in_time = known.seen.epoch_is.in_time in
      let near : unsigned_abs (a.tag -ℤ known.seen.epoch.tag) ≤ station.age * 10 ^ 12 = rw (sym in_time.apart_is) in_time.near in
      of_view (λ v. IsNearEpoch v.station.el v.station.tag) (known_near_at a known.usable.measured.codes known.usable.el its known.seen.epoch.tag station.age near short)
