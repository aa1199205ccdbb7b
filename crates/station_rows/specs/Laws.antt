-- A source with a station judges each satellite in one way, and allows something of each that is usable.
use Rattle.std.proofs.Common.{◌≡◌, refl, sym, ap, ◌∙◌, inl, inr, List, Some, None}
use Rattle.std.specs.Prelude.{ℤ, pos, ◌-ℤ◌, Option, true}
use Rattle.std.proofs.lemmas.Option.{none-some, same_Some}
use Rattle.error_bounds.specs.Reading.{bound_for, galileo_use_of, value_of_settings}
use Rattle.error_bounds.specs.declared.settings.Settings.{Settings}
use Rattle.gnss_model.specs.declared.delays.Delays.{Delays}
use Rattle.gnss_model.specs.declared.delays.Layer.{Layer}
use Rattle.gnss_model.specs.declared.delays.Layer.TheVariants.{Troposphere, Ionosphere}
use Rattle.gnss_model.specs.declared.satellites.GalileoUse.{GalileoUse}
use Rattle.gnss_model.specs.declared.satellites.Skip.{Skip}
use Rattle.grid_model.specs.Boxes.{GridBox, box_holds}
use Rattle.grid_model.specs.SearchBoxes.{IsSearchBox}
use Rattle.grid_model.specs.declared.boxes.Pos.{Pos}
use Rattle.grid_model.specs.declared.spans.Span.{Span}
use Rattle.rinex_nav.specs.declared.record.NavRecord.{NavRecord}
use Rattle.sat_rows.specs.ChainLemmas.{chain_exists, values_exist}
use Rattle.sat_rows.specs.Chains.{Chain, IsDelay, IsBound}
use Rattle.sat_rows.specs.Laws.{both_sound}
use Rattle.sat_rows.specs.Meanings.{IsSound}
use Rattle.usable_sats.specs.Usability.{Sighting, IsUsable, IsHigh, IsJudged, sighting_by}
use Rattle.usable_sats.proofs.JudgementLemmas.{judgement_one}
use Rattle.station_epochs.specs.Stations.{Station}
use Rattle.station_rows.specs.Differences.{CommonView, AreDifferences, less_residual, with_corrected}
use Rattle.station_rows.specs.Stations.{common_view, IsJudgedByBoth, station_meaning, rows_meaning}

-- ---- one judgement

same_skip : (s t : Skip) → s.number ≡ t.number → s.field ≡ t.field → s ≡ t
same_skip s t e f = λ i. record { number = e i; field = f i }

module _ (delays : Delays) (root : GridBox) (station : Station) (a : Sighting) where
  usable_and_not : (s : Skip) → IsUsable a → IsHigh delays root → IsJudged delays root a (Some s) → ⊥
  usable_and_not s u h f = none-some s (judgement_one a delays root None (Some s) (u, h) f)

  not_both : (s : Skip) → IsJudgedByBoth delays root station a None
      → IsJudgedByBoth delays root station a (Some s) → ⊥
  not_both s f (inl g) = usable_and_not s f.0 f.1 g
  not_both s f (inr (inl g)) = g.none f.2
  not_both s f (inr (inr g)) = g.far f.0 f.2 f.3

  one_reason : (s t : Skip) → IsJudgedByBoth delays root station a (Some s)
      → IsJudgedByBoth delays root station a (Some t) → s ≡ t
  one_reason s t (inl f) (inl g) = same_Some s t (judgement_one a delays root (Some s) (Some t) f g)
  one_reason s t (inl f) (inr (inl g)) = absurd (usable_and_not s g.usable g.high f)
  one_reason s t (inl f) (inr (inr g)) = absurd (usable_and_not s g.usable g.high f)
  one_reason s t (inr (inl f)) (inl g) = absurd (usable_and_not t f.usable f.high g)
  one_reason s t (inr (inr f)) (inl g) = absurd (usable_and_not t f.usable f.high g)
  one_reason s t (inr (inl f)) (inr (inl g)) = same_skip s t (f.number ∙ sym g.number) (f.field ∙ sym g.field)
  one_reason s t (inr (inl f)) (inr (inr g)) = absurd (f.none g.seen)
  one_reason s t (inr (inr f)) (inr (inl g)) = absurd (g.none f.seen)
  one_reason s t (inr (inr f)) (inr (inr g)) = same_skip s t (f.number ∙ sym g.number) (f.field ∙ sym g.field)

  pub judged_one : (x y : Option Skip) → IsJudgedByBoth delays root station a x
      → IsJudgedByBoth delays root station a y → x ≡ y
  judged_one None None f g = refl
  judged_one None (Some t) f g = absurd (not_both t f g)
  judged_one (Some s) None f g = absurd (not_both s g f)
  judged_one (Some s) (Some t) f g = ap (λ (k : Skip). Some k) (one_reason s t f g)

-- ---- the ends of the error don't speak of the pseudorange

moved_delay : (layer : Layer) (delay : Option Span) (p : Pos) (c : Chain) (v : ℤ) (d : ℤ × ℤ)
    → IsDelay layer delay p c d → IsDelay layer delay p (with_corrected c v) d
moved_delay layer None p c v d h = h
moved_delay layer (Some s) p c v d h = record { factor = h.factor; factor_is = h.factor_is; low = h.low; high = h.high }

pub moved_bound : (delays : Delays) (declared : ℤ × ℤ) (p : Pos) (c : Chain) (v : ℤ)
    → IsBound delays declared p c → IsBound delays declared p (with_corrected c v)
moved_bound delays declared p c v b = record {
  zenith = b.zenith;
  zenith_is = moved_delay Troposphere delays.zenith p c v b.zenith b.zenith_is;
  vertical = b.vertical;
  vertical_is = moved_delay Ionosphere delays.vertical p c v b.vertical b.vertical_is;
  lo_is = b.lo_is;
  hi_is = b.hi_is;
}

-- ---- something is allowed

pub differences_exist : (view : CommonView) (p : Pos) (delays : Delays) (declared : ℤ × ℤ) (root : GridBox)
    → IsSearchBox root → box_holds root p ≡ true → IsHigh delays root
    → (c : Chain) × AreDifferences delays declared view p c
differences_exist view p delays declared root box inside high =
    let (c, are) = chain_exists view.receiver p delays declared root box inside high in
    let (x, y, z, corrected, range, value) = values_exist view.station view.place in
    let residual = corrected -ℤ pos range in (
      less_residual c residual,
      (
        record {
          corrected = c.corrected;
          receiver = are.0;
          residual = residual;
          station = record { x = x; y = y; z = z; corrected = corrected; range = range; value = value; residual_is = refl };
          difference_is = refl;
        },
        moved_bound delays declared p c (c.corrected -ℤ residual) are.1,
      ),
    )

pub station_sound : (galileo : Option GalileoUse) (records : List NavRecord) (settings : Settings)
    (station : Station) → IsSound (station_meaning galileo records settings station)
station_sound galileo records settings station = record {
  one_judgement = λ root tag seen. judged_one settings.delays root station (sighting_by galileo records settings tag seen);
  allowed_exists = λ root tag seen p box inside judged.
      let a = sighting_by galileo records settings tag seen in
      let found = differences_exist (common_view station a judged.0 judged.2) p settings.delays (bound_for seen.sat (value_of_settings settings)) root box inside judged.1 in
      (found.0, record { usable = judged.0; seen = judged.2; are = found.1 });
  range_is = λ tag seen p c d. d.are.0.receiver.turn.range_is;
  bound_is = λ tag seen p c d. d.are.1;
  delays_within = settings.delays_within;
}

pub rows_sound : (records : List NavRecord) (settings : Settings) (station : Option Station)
    → IsSound (rows_meaning records settings station)
rows_sound records settings None = both_sound records settings
rows_sound records settings (Some station) =
    station_sound (galileo_use_of (value_of_settings settings).galileo) records settings station
