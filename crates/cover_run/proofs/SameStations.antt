-- What a navigation file, settings and a station say of satellites is said by their values: of the
-- station's epochs by those that they stand for.
use Rattle.std.proofs.Common.{◌≡◌, ℕ, zero, suc, List, [], ◌∷◌, Option, None, Some, inl, inr, refl, sym, ap, subst, ◌∙◌}
use Rattle.std.specs.Prelude.{ℤ, ◌-ℤ◌, slice_get, unsigned_abs}
use Rattle.std.specs.Option.{option_map}
use Rattle.std.proofs.lemmas.Option.{same_Some}
use Rattle.epoch_selection.specs.Searches.{Search}
use Rattle.error_bounds.specs.Reading.{bound_for, galileo_use_of, value_of_settings}
use Rattle.error_bounds.specs.Texts.{SettingsValue}
use Rattle.error_bounds.specs.declared.settings.Settings.{Settings}
use Rattle.gnss_model.specs.declared.delays.Delays.{Delays}
use Rattle.gnss_model.specs.declared.satellites.Skip.{Skip}
use Rattle.grid_model.specs.Boxes.{GridBox}
use Rattle.grid_model.specs.declared.boxes.Pos.{Pos}
use Rattle.input_files.specs.Inputs.{StationValue, station_value}
use Rattle.input_files.specs.declared.station_file.StationFile.{StationFile}
use Rattle.paving_log_check.specs.OwnLines.{OwnLines, AreOwn, AreOwnRows, AreRenewed, IsOwnOf, renewals_of}
use Rattle.paving_log_check.specs.OwnLines.{usable_of}
use Rattle.rinex_nav.specs.declared.record.NavRecord.{NavRecord}
use Rattle.rinex_obs.specs.Epochs.{Observed}
use Rattle.rinex_obs.specs.Reading.{plain_epoch, plain_epochs}
use Rattle.rinex_obs.specs.declared.obs.ObsEpoch.{ObsEpoch}
use Rattle.rinex_obs.specs.declared.obs.SatObs.{SatObs}
use Rattle.sat_model.specs.Events.{RowsOver}
use Rattle.sat_model.specs.Logs.{Block}
use Rattle.sat_model.specs.declared.rows.Row.{Row}
use Rattle.sat_rows.specs.Chains.{Chain, IsChainAt, observed}
use Rattle.sat_rows.specs.Meanings.{Meaning}
use Rattle.sat_rows.specs.OwnRows.{AreOwnLines, IsOwnLine, IsOwnRow}
use Rattle.sat_rows.specs.declared.lines.SatLine.{SatLine}
use Rattle.sat_rows.specs.declared.lines.SatLine.TheVariants.{Usable, Skipped}
use Rattle.station_epochs.specs.Stations.{Station, IsInTime, IsStationEpoch}
use Rattle.station_rows.specs.Differences.{CommonView, AreDifferences}
use Rattle.station_rows.specs.Nearby.{AreNearby}
use Rattle.station_rows.specs.Stations.{IsDifferenceAt, IsJudgedByBoth, IsSeenByStation, common_view}
use Rattle.station_rows.specs.Stations.{observed_in, rows_meaning}
use Rattle.usable_sats.specs.Usability.{Sighting, IsUsable, use_of, IsJudged}
use Rattle.cover_run.specs.Solving.{station_in}

-- ---- by values

abbrev sighting_by : List NavRecord → SettingsValue → ℤ → SatObs → Sighting
sighting_by records v tag seen = record {
  records = records;
  system = (use_of v.signal (galileo_use_of v.galileo) seen.sat).0;
  signal = (use_of v.signal (galileo_use_of v.galileo) seen.sat).1;
  max_age = v.max_age;
  tag = tag;
  seen = seen;
}

-- with a station
abbrev station_by : List NavRecord → SettingsValue → Delays → Station → Meaning
station_by records v delays station = record {
  judged = λ root tag seen. IsJudgedByBoth delays root station (sighting_by records v tag seen);
  allows = λ tag seen. IsDifferenceAt station (sighting_by records v tag seen) delays (bound_for seen.sat v);
  declared = λ sat. bound_for sat v;
  delays = delays;
}

-- or without one
abbrev pub meaning_by : List NavRecord → SettingsValue → Delays → Option Station → Meaning
meaning_by records v delays None = record {
  judged = λ root tag seen. IsJudged delays root (sighting_by records v tag seen);
  allows = λ tag seen. IsChainAt (sighting_by records v tag seen) delays (bound_for seen.sat v);
  declared = λ sat. bound_for sat v;
  delays = delays;
}
meaning_by records v delays (Some station) = station_by records v delays station

pub by_values : (records : List NavRecord) (s : Settings) (station : Option Station)
    → rows_meaning records s station ≡ meaning_by records (value_of_settings s) s.delays station
by_values records s None = refl
by_values records s (Some station) = refl

-- ---- a station's epochs

-- the epoch at a place of the one list, and that of the other
record IsSameAt (ys : List ObsEpoch) (i : ℕ) (e : ObsEpoch) : Type 0 where
  other : ObsEpoch
  at : slice_get ys i ≡ Some other
  same : plain_epoch e ≡ plain_epoch other

at_same : (xs ys : List ObsEpoch) → plain_epochs xs ≡ plain_epochs ys → (i : ℕ) (e : ObsEpoch)
    → slice_get xs i ≡ Some e → IsSameAt ys i e
at_same [] ys same i e at = cc
at_same (a ∷ xs) [] same i e at = cc
at_same (a ∷ xs) (b ∷ ys) same zero e at =
    let head : plain_epoch a ≡ plain_epoch b = cc in
    record { other = b; at = refl; same = ap plain_epoch (sym (same_Some a e at)) ∙ head }
at_same (a ∷ xs) (b ∷ ys) same (suc i) e at =
    let tail : plain_epochs xs ≡ plain_epochs ys = cc in
    let k = at_same xs ys tail i e at in
    record { other = k.other; at = k.at; same = k.same }

abbrev at_place : Pos → ℕ → List ObsEpoch → Station
at_place place age epochs = record { place = place; age = age; epochs = epochs }

module _ (place : Pos) (age : ℕ) where
  in_time : (xs ys : List ObsEpoch) (tag : ℤ) (i : ℕ) (e f : ObsEpoch) (apart : ℕ)
      → slice_get ys i ≡ Some f → plain_epoch e ≡ plain_epoch f
      → IsInTime (at_place place age xs) tag i e apart → IsInTime (at_place place age ys) tag i f apart
  in_time xs ys tag i e f apart at same k = record {
    at = at;
    apart_is = subst (λ (o : Observed). apart ≡ unsigned_abs (tag -ℤ o.tag)) same k.apart_is;
    near = k.near;
  }

  epoch_same : (xs ys : List ObsEpoch) → plain_epochs xs ≡ plain_epochs ys → (tag : ℤ) (e f : ObsEpoch)
      → (k : IsStationEpoch (at_place place age xs) tag e) → slice_get ys k.i ≡ Some f
      → plain_epoch e ≡ plain_epoch f → IsStationEpoch (at_place place age ys) tag f
  epoch_same xs ys same tag e f k at here = record {
    i = k.i;
    apart = k.apart;
    in_time = in_time xs ys tag k.i e f k.apart at here k.in_time;
    least = λ j g other t.
        let back = at_same ys xs (sym same) j g t.at in
        k.least j back.other other (in_time ys xs tag j g back.other other back.at back.same t);
    last = λ j g t.
        let back = at_same ys xs (sym same) j g t.at in
        k.last j back.other (in_time ys xs tag j g back.other k.apart back.at back.same t);
  }

  -- what the station observed, by the one list and by the other
  record IsSeenAlike (xs ys : List ObsEpoch) (a : Sighting)
      (s : IsSeenByStation (at_place place age xs) a) : Type 0 where
    seen : IsSeenByStation (at_place place age ys) a
    views : (u : IsUsable a)
        → common_view (at_place place age xs) a u s ≡ common_view (at_place place age ys) a u seen

  seen_same : (xs ys : List ObsEpoch) → plain_epochs xs ≡ plain_epochs ys → (a : Sighting)
      → (s : IsSeenByStation (at_place place age xs) a) → IsSeenAlike xs ys a s
  seen_same xs ys same a s =
      let k = at_same xs ys same s.epoch_is.i s.epoch s.epoch_is.in_time.at in record {
        seen = record {
          epoch = k.other;
          epoch_is = epoch_same xs ys same a.tag s.epoch k.other s.epoch_is k.at k.same;
          seen = s.seen;
          seen_is = subst (λ (o : Observed). observed_in a.seen.sat o.sats ≡ Some s.seen) k.same s.seen_is;
          measured = record {
            codes = s.measured.codes;
            values = s.measured.values;
            plausible = s.measured.plausible;
          };
        };
        views = λ u. ap (λ (o : Observed). let view : CommonView = record {
          receiver = observed a u;
          station = record { system = a.system; tag = o.tag; codes = s.measured.codes; el = u.el };
          place = place;
        } in view) k.same;
      }

  -- ---- satellites

  judged_same : (xs ys : List ObsEpoch) → plain_epochs xs ≡ plain_epochs ys → (delays : Delays)
      (root : GridBox) (a : Sighting) (skip : Option Skip)
      → IsJudgedByBoth delays root (at_place place age xs) a skip
      → IsJudgedByBoth delays root (at_place place age ys) a skip
  judged_same xs ys same delays root a None (usable, high, seen, near) =
      let t = seen_same xs ys same a seen in
      (usable, high, t.seen, subst AreNearby (t.views usable) near)
  judged_same xs ys same delays root a (Some skip) (inl alone) = inl alone
  judged_same xs ys same delays root a (Some skip) (inr (inl lacks)) = inr (inl (record {
    usable = lacks.usable;
    high = lacks.high;
    none = λ s. lacks.none (seen_same ys xs (sym same) a s).seen;
    number = lacks.number;
    field = lacks.field;
  }))
  judged_same xs ys same delays root a (Some skip) (inr (inr far)) = inr (inr (record {
    usable = far.usable;
    high = far.high;
    seen = (seen_same xs ys same a far.seen).seen;
    far = λ u s near.
        let back = seen_same ys xs (sym same) a s in
        far.far u back.seen (subst AreNearby (back.views u) near);
    number = far.number;
    field = far.field;
  }))

  allowed_same : (xs ys : List ObsEpoch) → plain_epochs xs ≡ plain_epochs ys → (a : Sighting)
      (delays : Delays) (declared : ℤ × ℤ) (p : Pos) (c : Chain)
      → IsDifferenceAt (at_place place age xs) a delays declared p c
      → IsDifferenceAt (at_place place age ys) a delays declared p c
  allowed_same xs ys same a delays declared p c d =
      let t = seen_same xs ys same a d.seen in record {
        usable = d.usable;
        seen = t.seen;
        are = subst (λ (view : CommonView). AreDifferences delays declared view p c) (t.views d.usable) d.are;
      }

  -- ---- own lines

  module _ (records : List NavRecord) (v : SettingsValue) (delays : Delays) (xs ys : List ObsEpoch)
      (same : plain_epochs xs ≡ plain_epochs ys) where
    abbrev m : Meaning
    m = station_by records v delays (at_place place age xs)

    abbrev n : Meaning
    n = station_by records v delays (at_place place age ys)

    own_row : (root : GridBox) (tag : ℤ) (seen : SatObs) (row : Row) → IsOwnRow m root tag seen row
        → IsOwnRow n root tag seen row
    own_row root tag seen row k = record {
      holds = λ p c inside allowed. k.holds p c inside
          (allowed_same ys xs (sym same) (sighting_by records v tag seen) delays (bound_for seen.sat v) p c allowed);
      x = k.x;
      y = k.y;
      z = k.z;
      range = k.range;
      bounds = k.bounds;
      plain = k.plain;
    }

    own_line : (root : GridBox) (tag : ℤ) (seen : SatObs) (line : SatLine)
        → IsOwnLine m root tag seen line → IsOwnLine n root tag seen line
    own_line root tag seen (Usable row) (sat, judged, own) = (
      sat,
      judged_same xs ys same delays root (sighting_by records v tag seen) None judged,
      own_row root tag seen row own,
    )
    own_line root tag seen (Skipped sat skip) (is, judged) =
        (is, judged_same xs ys same delays root (sighting_by records v tag seen) (Some skip) judged)

    own_lines : (root : GridBox) (tag : ℤ) (sats : List SatObs) (lines : List SatLine)
        → AreOwnLines m root tag sats lines → AreOwnLines n root tag sats lines
    own_lines root tag [] [] are = tt
    own_lines root tag [] (line ∷ lines) are = absurd are
    own_lines root tag (seen ∷ sats) [] are = absurd are
    own_lines root tag (seen ∷ sats) (line ∷ lines) are =
        (own_line root tag seen line are.0, own_lines root tag sats lines are.1)

    own_rows : (part : GridBox) (tag : ℤ) (sats : List SatObs) (rows : List Row)
        → AreOwnRows m part tag sats rows → AreOwnRows n part tag sats rows
    own_rows part tag sats [] are = tt
    own_rows part tag [] (row ∷ rows) are = absurd are
    own_rows part tag (seen ∷ sats) (row ∷ rows) are =
        (own_row part tag seen row are.0, own_rows part tag sats rows are.1)

    renewed : (tag : ℤ) (sats : List SatObs) (renewals : List RowsOver) (rows : List (List Row))
        → AreRenewed m tag sats renewals rows → AreRenewed n tag sats renewals rows
    renewed tag sats renewals [] are = tt
    renewed tag sats [] (rows ∷ more) are = absurd are
    renewed tag sats (new ∷ renewals) (rows ∷ more) are =
        (own_rows new.part tag sats rows are.0, renewed tag sats renewals more are.1)

    own_of : (search : Search) (renewals : List RowsOver) (own : OwnLines)
        → IsOwnOf m search renewals own → IsOwnOf n search renewals own
    own_of search renewals own k = record {
      lines = own_lines search.root search.epoch.tag search.epoch.sats.items own.lines k.lines;
      renewed = renewed search.epoch.tag (usable_of search.epoch.sats.items own.lines) renewals own.renewed k.renewed;
    }

    own_all : (searches : List Search) (blocks : List Block) (owns : List OwnLines)
        → AreOwn m searches blocks owns → AreOwn n searches blocks owns
    own_all searches blocks [] are = tt
    own_all [] blocks (own ∷ owns) are = absurd are
    own_all (search ∷ rest) [] (own ∷ owns) are =
        (own_of search [] own are.0, own_all rest [] owns are.1)
    own_all (search ∷ rest) (block ∷ more) (own ∷ owns) are =
        (own_of search (renewals_of block.body) own are.0, own_all rest more owns are.1)

-- own lines by the one station are such by another one of the same value
pub station_moved : (records : List NavRecord) (v : SettingsValue) (delays : Delays)
    (a b : Option StationFile) → option_map station_value a ≡ option_map station_value b
    → (searches : List Search) (blocks : List Block) (owns : List OwnLines)
    → AreOwn (meaning_by records v delays (option_map station_in a)) searches blocks owns
    → AreOwn (meaning_by records v delays (option_map station_in b)) searches blocks owns
station_moved records v delays None None same searches blocks owns are = are
station_moved records v delays None (Some b) same searches blocks owns are = cc
station_moved records v delays (Some a) None same searches blocks owns are = cc
station_moved records v delays (Some a) (Some b) same searches blocks owns are =
    let value = same_Some (station_value a) (station_value b) same in
    let placed = subst (λ (x : StationValue).
    AreOwn (station_by records v delays (at_place x.place x.age a.obs.epochs.items)) searches blocks owns) value are in
    own_all b.place b.age records v delays a.obs.epochs.items b.obs.epochs.items
    (ap (λ (x : StationValue). x.epochs) value) searches blocks owns placed
