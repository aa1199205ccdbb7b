-- A made satellite is usable and, where it isn't the outlier of its epoch, consistent with the place at clock offset 0.
use Rattle.std.proofs.Common.{◌≡◌, ℕ, zero, suc, ◌+◌, ◌-◌, ◌*◌, ◌/◌, ◌%◌, ◌^◌, ◌<◌, ◌≤◌, List, [], ◌∷◌, length, map, refl, sym, ap, subst, ◌∙◌, arith, lit≤, inl, inr, false, None, Some}
use Rattle.std.specs.Prelude.{ℤ, pos, negsuc, neg_ℤ, ◌+ℤ◌, ◌-ℤ◌, ◌*ℤ◌, ◌≤ℤ◌, ◌<ℤ◌, ◌==◌, slice_get, unsigned_abs, Option, option_map}
use Rattle.std.specs.Int.Signed.{≤ℤ_refl}
use Rattle.std.specs.List.{AllByRecursion}
use Rattle.std.proofs.lemmas.Bool.{cases_Bool}
use Rattle.std.proofs.lemmas.Int.{ints}
use mathlib.Core.HLevel.{is_prop→PathP}
use Rattle.error_bounds.specs.Reading.{bound_for, value_of_settings}
use Rattle.error_bounds.specs.declared.settings.Settings.{Settings}
use Rattle.error_bounds.specs.Texts.{SettingsValue}
use Rattle.exact_decimal.specs.Units.{numerator, denominator}
use Rattle.exact_decimal.specs.declared.decimal.Decimal.{Decimal}
use Rattle.exact_decimal.specs.declared.unit.Unit.TheVariants.{Length, Time}
use Rattle.rinex_nav.specs.ElementsOf.{IsRounded, AreElements}
use Rattle.rinex_nav.specs.FieldBounds.{AreInside, field_of}
use Rattle.rinex_nav.specs.Reading.{plain_record, records_of}
use Rattle.rinex_nav.specs.Records.{Broadcast}
use Rattle.rinex_nav.specs.Weeks.{IsNearestWeek, IsAge}
use Rattle.rinex_nav.specs.declared.record.NavRecord.{NavRecord}
use Rattle.rinex_obs.specs.declared.obs.SatObs.{SatObs}
use Rattle.rinex_text.specs.Dates.{gps_time}
use Rattle.grid_model.specs.Boxes.{GridBox}
use Rattle.grid_model.specs.Intervals.{Between}
use Rattle.gnss_model.specs.Pseudorange.{Codes}
use Rattle.grid_model.specs.Rounding.{IsFloor}
use Rattle.grid_model.specs.Sizes.{IsWithin}
use Rattle.grid_model.specs.declared.boxes.Pos.{Pos}
use Rattle.gnss_model.specs.declared.satellites.Sat.{Sat}
use Rattle.gnss_model.specs.declared.satellites.Signal.TheVariants.{Single}
use Rattle.gnss_model.specs.declared.systems.System.TheVariants.{Gps}
use Rattle.sat_model.specs.Relaxed.{ends}
use Rattle.gnss_model.specs.declared.delays.Delays.{Delays}
use Rattle.grid_model.specs.declared.spans.Span.{Span}
use Rattle.grid_model.specs.declared.spans.Wide.{Wide}
use Rattle.sat_rows.specs.Chains.{Chain, IsChainAt}
use Rattle.sat_rows.specs.Fitting.{Agrees, Fits}
use Rattle.sat_rows.specs.Meanings.{Meaning}
use Rattle.usable_sats.specs.Usability.{Sighting, IsMeasured, IsItsRecord, IsFit, IsUsable, IsJudged}
use Rattle.made_texts.specs.ObsText.{observed_of, observed_from, sat_of, code_c1c}
use Rattle.made_texts.specs.declared.sat_codes.EpochCodes.{EpochCodes}
use Rattle.made_texts.specs.SettingsText.{settings_of}
use Rattle.made_texts.specs.declared.sat_codes.SatCode.{SatCode}
use Rattle.made_input.specs.MadeCodes.{IsMadeCode, AreMadeSats, IsMadeEpoch, AreMadeEpochs, place_of, centre_x, centre_y, centre_z, tag_of, goal_of}
use Rattle.made_input.specs.MadeRecords.{made_broadcast, made_records, mean_draw}
use Rattle.made_input.specs.PlaceFits.{FitsAt, AreUsable}
use Rattle.made_input.proofs.BoundLemmas.{inside}
use Rattle.made_input.proofs.ClockBounds.{made_clock}
use Rattle.made_input.proofs.OrbitBounds.{made_ellipse}
use Rattle.made_input.proofs.RangeBounds.{code_in_range, drawn_below, IsPlausible as InRange}
use Rattle.made_input.proofs.RecordLemmas.{record_at, eight_records}
use Rattle.made_input.proofs.TimeLemmas.{tag_is, toc_is, week_is}
use Rattle.grid_model.proofs.OrderLemmas.{le_prop, lt_prop}
use Rattle.exact_decimal.proofs.Mantissas.{other_byte as behind_other}
use Rattle.exact_decimal.proofs.Signs.{is_byte as is_there}

-- ---- records

pub same_record : (r s : NavRecord) → plain_record r ≡ plain_record s → r ≡ s
same_record r s e = λ i. record {
  sat = (e i).sat;
  toc = (e i).toc;
  healthy = (e i).healthy;
  fields = (e i).fields;
  toc_from = is_prop→PathP (λ j. pos 0 ≤ℤ (e j).toc) (λ j. le_prop (pos 0) (e j).toc) r.toc_from s.toc_from i;
  toc_under = is_prop→PathP (λ j. (e j).toc <ℤ pos 4000000000000000000000) (λ j. lt_prop (e j).toc (pos 4000000000000000000000)) r.toc_under s.toc_under i;
}

record_there : (records : List NavRecord) (i : ℕ) → i < length records → (r : NavRecord) × (slice_get records i ≡ Some r)
record_there [] i h = absurd (omega (arith, h))
record_there (r ∷ records) zero h = (r, refl)
record_there (r ∷ records) (suc i) h = record_there records i (omega (arith, h))

-- ---- the ephemeris time

made_age : (k u : ℕ) (r : NavRecord) (tag age : ℤ) → plain_record r ≡ made_broadcast k u
    → IsAge r tag age → age ≡ pos (unsigned_abs (tag -ℤ pos 1388628000000000000000))
made_age k u r tag age numbers a =
    let t = a.1 in
    let toc = toc_is k u r numbers in
    let fields : r.fields ≡ (made_broadcast k u).fields = ap (λ (b : Broadcast). b.fields) numbers in
    let floor = subst (λ (fs : List Decimal). IsFloor (numerator (field_of fs 11).digits (field_of fs 11).ten Time) (pos (denominator (field_of fs 11).ten Time)) t.toe) fields t.toe_is in
    let floor_le : (t.toe *ℤ pos 1) ≤ℤ pos 7200000000000000 = floor.le in
    let floor_gt : pos 7200000000000000 <ℤ ((t.toe *ℤ pos 1) +ℤ pos 1) = floor.gt in
    let toe : t.toe ≡ pos 7200000000000000 = omega (arith, ints, floor_le, floor_gt) in
    let start = week_is t.toe t.start toe (subst (λ (z : ℤ). IsNearestWeek z t.toe t.start) toc t.start_is) in
    let time : a.0 ≡ pos 1388628000000000000000 = omega (arith, ints, t.time_is, start, toe) in
    a.2 ∙ ap (λ (z : ℤ). pos (unsigned_abs (tag -ℤ z))) time

the_age : (k u : ℕ) (r : NavRecord) (tag : ℤ) → k ≤ 8 → u ≤ 99 → plain_record r ≡ made_broadcast k u
    → IsAge r tag (pos (unsigned_abs (tag -ℤ pos 1388628000000000000000)))
the_age k u r tag few draw numbers =
    let toc = toc_is k u r numbers in
    let fields : r.fields ≡ (made_broadcast k u).fields = ap (λ (b : Broadcast). b.fields) numbers in
    let there = subst (λ (fs : List Decimal). AreInside fs) (sym fields) (inside k u few draw) in (
      pos 1388628000000000000000,
      record {
        inside = there 11 (omega arith) (omega arith);
        toe = pos 7200000000000000;
        start = pos 1388620800000000000000;
        toe_is = rw fields (record { le = omega (arith, ints); gt = omega (arith, ints) });
        start_is = rw toc (record { weeks = pos 2296; start_is = refl; after = omega (arith, ints); before = omega (arith, ints) });
        time_is = refl;
      },
      refl,
    )

-- ---- the code

observed_some : (code : ℤ) → pos 1 ≤ℤ code
    → observed_of code ≡ Some (record { digits = code; ten = neg_ℤ (pos 3) })
observed_some (pos zero) h = absurd (omega (arith, ints, h))
observed_some (pos (suc n)) h = refl
observed_some (negsuc n) h = absurd (omega (arith, ints, h))

wide_of : ℤ → Wide
wide_of z = record { lo = z; hi = z; ordered = ≤ℤ_refl z }

rounded : (code : ℤ)
    → IsRounded (wide_of (code *ℤ pos 1000)) (record { digits = code; ten = neg_ℤ (pos 3) }) Length
unfolding wide_of
rounded code = record { floor = record { le = omega (arith, ints); gt = omega (arith, ints) }; ceiling = record { ge = omega (arith, ints); lt = omega (arith, ints) } }

-- ---- usable

sighting_of : List NavRecord → ℕ → SatCode → Sighting
sighting_of records j s = record { records = records; system = Gps; signal = Single code_c1c; max_age = 7200; tag = tag_of j; seen = sat_of s }

age_of : ℕ → ℤ
age_of j = pos (unsigned_abs (tag_of j -ℤ pos 1388628000000000000000))

age_near : (tag : ℤ) (j : ℕ) → j < 240 → tag ≡ pos (1388624400000000000000 + 30 * j * 10 ^ 12)
    → pos (unsigned_abs (tag -ℤ pos 1388628000000000000000)) ≤ℤ pos (7200 * 10 ^ 12)
age_near tag j few is = omega (arith, ints, few, is)

age_small : (j : ℕ) → j < 240 → age_of j ≤ℤ pos (7200 * 10 ^ 12)
unfolding age_of
age_small j few = age_near (tag_of j) j few (tag_is j)

-- its record stands behind those of the satellites before it
its_place : (seed j k i : ℕ) (records : List NavRecord) (s : SatCode) (r : NavRecord)
    → records_of records ≡ made_records seed → s.number ≡ k
    → IsItsRecord (sighting_of records j s) i r → i + 1 ≡ k
unfolding sighting_of
its_place seed j k i records s r e number its =
    let numbers = ap (λ (b : Broadcast). b.sat.number) (record_at seed 1 8 i records r e its.at) in
    let same = ap (λ (sat : Sat). sat.number) its.sat in
    omega (arith, numbers, same, number)

-- a record of it is that one, and as old
its_age : (seed j k i : ℕ) (records : List NavRecord) (s : SatCode) (r : NavRecord) (age : ℤ)
    → records_of records ≡ made_records seed → s.number ≡ k
    → IsFit (sighting_of records j s) i r age → age ≡ age_of j
unfolding sighting_of age_of
its_age seed j k i records s r age e number fit =
    made_age (1 + i) (mean_draw seed (1 + i)) r (tag_of j) age (record_at seed 1 8 i records r e fit.fresh.healthy.its.at) fit.fresh.age_is

record IsKnown (seed j k : ℕ) (records : List NavRecord) (s : SatCode) : Type 0 where
  records_are : records_of records ≡ made_records seed
  number : s.number ≡ k
  code : IsMadeCode seed j k s.code
  epoch : j < 240
  from : 1 ≤ k
  to : k ≤ 8

its_record : (seed j k : ℕ) (records : List NavRecord) (s : SatCode) → IsKnown seed j k records s
    → (r : NavRecord) × (slice_get records (k - 1) ≡ Some r) × (plain_record r ≡ made_broadcast k (mean_draw seed k))
its_record seed j k records s known =
    let there = record_there records (k - 1) (omega (arith, eight_records seed records known.records_are, known.to, known.from)) in
    let place : 1 + (k - 1) ≡ k = omega (arith, known.from) in
    (there.0, there.1, subst (λ (n : ℕ). plain_record there.0 ≡ made_broadcast n (mean_draw seed n)) place (record_at seed 1 8 (k - 1) records there.0 known.records_are there.1))

its_elements : (seed j k : ℕ) (records : List NavRecord) (s : SatCode) (known : IsKnown seed j k records s)
    → AreElements (its_record seed j k records s known).0 known.code.el
its_elements seed j k records s known =
    let r = its_record seed j k records s known in
    let other = known.code.elements in
    subst (λ (z : NavRecord). AreElements z known.code.el) (same_record other.r r.0 (other.numbers_are ∙ sym r.2)) other.elements

near_toc : (tag toc : ℤ) (j : ℕ) → j < 240 → tag ≡ pos (1388624400000000000000 + 30 * j * 10 ^ 12)
    → toc ≡ pos 1388628000000000000000 → IsWithin (4 * 10 ^ 15) (tag -ℤ toc)
near_toc tag toc j few is at = record { low = omega (arith, ints, few, is, at); high = omega (arith, ints, few, is, at) }

its_code : (seed j k : ℕ) (records : List NavRecord) (s : SatCode) → IsKnown seed j k records s
    → InRange s.code
its_code seed j k records s known =
    let r = its_record seed j k records s known in
    let elements = its_elements seed j k records s known in
    let toc = elements.toc ∙ toc_is k (mean_draw seed k) r.0 r.2 in
    code_in_range seed j k s.code known.code (made_clock k (mean_draw seed k) r.0 known.code.el known.to r.2 elements) (made_ellipse k (mean_draw seed k) r.0 known.code.el known.to r.2 elements) (near_toc (tag_of j) known.code.el.toc j known.epoch (tag_is j) toc)

its_codes : SatCode → Codes
its_codes s = record { first = wide_of (s.code *ℤ pos 1000); second = None }

is_measured : (seed j k : ℕ) (records : List NavRecord) (s : SatCode) → IsKnown seed j k records s
    → IsMeasured (sighting_of records j s)
unfolding sighting_of its_codes wide_of
is_measured seed j k records s known =
    let range = its_code seed j k records s known in
    record {
      codes = its_codes s;
      values = (record { digits = s.code; ten = neg_ℤ (pos 3) }, observed_some s.code (omega (arith, ints, range.from)), rounded s.code, refl);
      plausible = record { from = omega (arith, ints, range.from); to = omega (arith, ints, range.to) };
    }

abbrev gps : ℕ → Sat
gps number = record { system = 71; number = number }

is_fit : (seed j k : ℕ) (records : List NavRecord) (s : SatCode) (known : IsKnown seed j k records s)
    → IsFit (sighting_of records j s) (k - 1) (its_record seed j k records s known).0 (age_of j)
unfolding sighting_of age_of
is_fit seed j k records s known =
    let r = its_record seed j k records s known in
    let draw : mean_draw seed k ≤ 99 = omega (arith, drawn_below seed (2 + k) 100 (lit≤ tt)) in
    let fields : r.0.fields ≡ (made_broadcast k (mean_draw seed k)).fields = ap (λ (b : Broadcast). b.fields) r.2 in
    record {
      fresh = record {
        healthy = record {
          its = record { at = r.1; sat = ap (λ (b : Broadcast). b.sat) r.2 ∙ ap gps (sym known.number) };
          healthy = ap (λ (b : Broadcast). b.healthy) r.2;
        };
        age_is = the_age k (mean_draw seed k) r.0 (tag_of j) known.to draw r.2;
        fresh = age_small j known.epoch;
      };
      inside = subst (λ (fs : List Decimal). AreInside fs) (sym fields) (inside k (mean_draw seed k) known.to draw);
    }

is_usable : (seed j k : ℕ) (records : List NavRecord) (s : SatCode) → IsKnown seed j k records s
    → IsUsable (sighting_of records j s)
unfolding sighting_of
is_usable seed j k records s known =
    let r = its_record seed j k records s known in
    record {
      measured = is_measured seed j k records s known;
      i = k - 1;
      r = r.0;
      age = age_of j;
      used = record {
        meets = is_fit seed j k records s known;
        least = λ i o age fit. let same = its_age seed j k i records s o age known.records_are known.number fit in omega (arith, ints, same);
        last = λ i o fit. let place = its_place seed j k i records s o known.records_are known.number fit.fresh.healthy.its in omega (arith, place);
      };
      el = known.code.el;
      elements = its_elements seed j k records s known;
    }

-- ---- consistent

abbrev no_delays : Delays
no_delays = record { zenith = None; vertical = None }

chain_of : (seed j k : ℕ) (records : List NavRecord) (s : SatCode) → IsKnown seed j k records s
    → Chain
chain_of seed j k records s known = let c = known.code.some.1 in record { x = c.x; y = c.y; z = c.z; corrected = c.corrected; range = c.range; lo = neg_ℤ (pos 2500000); hi = pos 2500000 }

is_chain : (seed j k : ℕ) (records : List NavRecord) (s : SatCode) (known : IsKnown seed j k records s)
    → IsChainAt (sighting_of records j s) no_delays (neg_ℤ (pos 2500000), pos 2500000) (place_of seed) (chain_of seed j k records s known)
unfolding sighting_of chain_of is_usable is_measured its_codes wide_of
is_chain seed j k records s known =
    let c = known.code.some.1 in
    record {
      usable = is_usable seed j k records s known;
      are = (
        record {
          pr = s.code *ℤ pos 1000;
          pr_is = record { from = ≤ℤ_refl (s.code *ℤ pos 1000); to = ≤ℤ_refl (s.code *ℤ pos 1000) };
          tsv = c.tsv;
          tsv_is = c.tsv_is;
          n = c.n;
          n_is = c.n_is;
          dt = c.dt;
          t = c.t;
          clock = c.clock;
          one_root = c.one_root;
          corrected_is = c.corrected_is;
          sent_x = c.sent_x;
          sent_y = c.sent_y;
          orbit = c.orbit;
          turn = c.turn;
        },
        record {
          zenith = (pos 0, pos 0);
          zenith_is = refl;
          vertical = (pos 0, pos 0);
          vertical_is = refl;
          lo_is = refl;
          hi_is = refl;
        },
      );
    }

-- without the outlier's 500 m
small_goal : (seed j k : ℕ) → (k == 1 + j % 8) ≡ false
    → Between (neg_ℤ (pos 2000000)) (pos 2000000) (goal_of seed j k)
small_goal seed j k other =
    let draw = drawn_below seed (10 + 8 * j + k) 4001 (lit≤ tt) in
    rw other (record { from = omega (arith, ints, draw); to = omega (arith, ints, draw) })

error_within : (goal v corrected : ℤ) (range : ℕ) → Between (neg_ℤ (pos 2000000)) (pos 2000000) goal
    → Between (goal -ℤ pos 4507) (goal +ℤ pos 3507) v → v ≡ corrected -ℤ pos range
    → Between (neg_ℤ (pos 2500000)) (pos 2500000) (corrected -ℤ pos range -ℤ pos 0)
error_within goal v corrected range g b is = record { from = omega (arith, ints, g.from, b.from, is); to = omega (arith, ints, g.to, b.to, is) }

-- ---- an epoch fits

sight : List NavRecord → SettingsValue → ℤ → SatObs → Sighting
sight records v tag seen = record { records = records; system = Gps; signal = v.signal; max_age = v.max_age; tag = tag; seen = seen }

abbrev meaning_by : List NavRecord → SettingsValue → Delays → Meaning
meaning_by records v delays = record {
  judged = λ root tag seen. IsJudged delays root (sight records v tag seen);
  allows = λ tag seen. IsChainAt (sight records v tag seen) delays (bound_for seen.sat v);
  declared = λ sat. bound_for sat v;
  delays = delays;
}

abbrev AgreesBy : List NavRecord → SettingsValue → GridBox → ℤ → Pos → SatObs → Type 0
AgreesBy records v root tag p = Agrees (meaning_by records v no_delays) root tag p (pos 0)

abbrev FitsBy : List NavRecord → SettingsValue → Delays → GridBox → ℤ → ℕ → Pos → List SatObs → Type 0
FitsBy records v delays root tag q p = Fits (meaning_by records v delays) root tag q p (pos 0)

no_span : (upward : Option Span) → option_map ends upward ≡ None → upward ≡ None
no_span None e = refl
no_span (Some s) e = absurd (let no = e in cc)

none_declared : (delays : Delays) → option_map ends delays.zenith ≡ None
    → option_map ends delays.vertical ≡ None → delays ≡ no_delays
none_declared delays e f =
    let z = no_span delays.zenith e in
    let v = no_span delays.vertical f in
    λ i. record { zenith = z i; vertical = v i }

is_before : (k n : ℕ) → (k == n) ≡ false → k ≤ n → k < n
is_before k n h l = grind (arith, h, l)

module _ (seed j : ℕ) (records : List NavRecord) (x y z : ℤ) (root : GridBox) (records_are : records_of records ≡ made_records seed) (epoch : j < 240) where
  agrees : (k : ℕ) (s : SatCode) → IsKnown seed j k records s → (k == 1 + j % 8) ≡ false
      → AgreesBy records (settings_of x y z) root (tag_of j) (place_of seed) (sat_of s)
  unfolding sight sighting_of chain_of
  agrees k s known other =
      let c = known.code.some in
      inr (record {
        values = chain_of seed j k records s known;
        are = is_chain seed j k records s known;
        within = error_within (goal_of seed j k) c.0 c.1.corrected c.1.range (small_goal seed j k other) (known.code.near c.0 c.1) c.1.residual_is;
      })

  -- behind the outlier
  fits_all : (k : ℕ) (sats : List SatCode) → AreMadeSats seed j k sats → 1 + j % 8 < k
      → k + length sats ≤ 9
      → FitsBy records (settings_of x y z) no_delays root (tag_of j) 0 (place_of seed) (map sat_of sats)
  fits_all k [] made behind few = tt
  fits_all k (s ∷ sats) made behind few =
      let other : (k == 1 + j % 8) ≡ false = behind_other k (1 + j % 8) behind in
      let known : IsKnown seed j k records s = record { records_are = records_are; number = made.0; code = made.1; epoch = epoch; from = omega (arith, behind); to = omega (arith, few) } in
      (agrees k s known other, fits_all (k + 1) sats made.2 (omega (arith, behind)) (omega (arith, few)))

  fits_but_one : (k : ℕ) (sats : List SatCode) → AreMadeSats seed j k sats → 1 ≤ k → k ≤ 1 + j % 8
      → k + length sats ≤ 9
      → FitsBy records (settings_of x y z) no_delays root (tag_of j) 1 (place_of seed) (map sat_of sats)
  fits_but_one k [] made from before few = tt
  fits_but_one k (s ∷ sats) made from before few = elim (cases_Bool (k == 1 + j % 8)) [
    | inl here ↦
        let same = is_there k (1 + j % 8) here in
        inr (fits_all (k + 1) sats made.2 (omega (arith, same)) (omega (arith, few)))
    | inr other ↦
        let apart = is_before k (1 + j % 8) other before in
        let known : IsKnown seed j k records s = record { records_are = records_are; number = made.0; code = made.1; epoch = epoch; from = from; to = omega (arith, few) } in
        inl (agrees k s known other, fits_but_one (k + 1) sats made.2 (omega (arith, from)) (omega (arith, apart)) (omega (arith, few)))
  ]

-- ---- all epochs fit

epoch_time : (seed j : ℕ) (e : EpochCodes) → IsMadeEpoch seed j e → j < 240
    → pos (gps_time 2024 1 7 e.hour e.minute (e.second * 10000000)) ≡ tag_of j
epoch_time seed j e is few =
    let time : gps_time 2024 1 7 (1 + j / 120) (j / 2 % 60) (j % 2 * 30 * 10000000) ≡ gps_time 2024 1 7 1 0 0 + 30 * j * 10 ^ 12 = omega (arith, few) in
    rw (is.hour, is.minute, is.second) (ap (λ (n : ℕ). pos n) time)

pub fits_in_each : (seed : ℕ) (records : List NavRecord) (settings : Settings)
    → records_of records ≡ made_records seed
    → value_of_settings settings ≡ settings_of (centre_x seed) (centre_y seed) (centre_z seed)
    → (index j : ℕ) (epochs : List EpochCodes) → AreMadeEpochs seed j epochs
    → j + length epochs ≤ 240
    → AllByRecursion (FitsAt records settings (place_of seed)) (observed_from index epochs)
unfolding sight
fits_in_each seed records settings read value index j [] made few = tt
fits_in_each seed records settings read value index j (e ∷ epochs) made few =
    let epoch : j < 240 = omega (arith, few) in
    let time = epoch_time seed j e made.0 epoch in
    let none = none_declared settings.delays (ap (λ (v : SettingsValue). v.zenith) value) (ap (λ (v : SettingsValue). v.vertical) value) in
    let fits = λ (root : GridBox). fits_but_one seed j records (centre_x seed) (centre_y seed) (centre_z seed) root read epoch 1 e.sats.items made.0.sats (lit≤ tt) (omega arith) (omega (arith, made.0.eight)) in
    let timed = λ (root : GridBox). subst (λ (tag : ℤ). FitsBy records (settings_of (centre_x seed) (centre_y seed) (centre_z seed)) no_delays root tag 1 (place_of seed) (map sat_of e.sats.items)) (sym time) (fits root) in
    let plain = λ (root : GridBox). subst (λ (delays : Delays). FitsBy records (settings_of (centre_x seed) (centre_y seed) (centre_z seed)) delays root (pos (gps_time 2024 1 7 e.hour e.minute (e.second * 10000000))) 1 (place_of seed) (map sat_of e.sats.items))
    (sym none) (timed root) in (
      λ root. subst (λ (v : SettingsValue). FitsBy records v settings.delays root (pos (gps_time 2024 1 7 e.hour e.minute (e.second * 10000000))) v.outliers (place_of seed) (map sat_of e.sats.items)) (sym value) (plain root),
      fits_in_each seed records settings read value (index + 1) (j + 1) epochs made.1 (omega (arith, few)),
    )

-- ---- all satellites are usable

abbrev UsableBy : List NavRecord → SettingsValue → ℤ → List SatObs → Type 0
UsableBy records v tag sats = AllByRecursion (λ (seen : SatObs). IsUsable (sight records v tag seen)) sats

usable_from : (seed j : ℕ) (records : List NavRecord) (x y z : ℤ)
    → records_of records ≡ made_records seed → j < 240 → (k : ℕ) (sats : List SatCode)
    → AreMadeSats seed j k sats → 1 ≤ k → k + length sats ≤ 9
    → UsableBy records (settings_of x y z) (tag_of j) (map sat_of sats)
unfolding sight sighting_of
usable_from seed j records x y z read epoch k [] made from few = tt
usable_from seed j records x y z read epoch k (s ∷ sats) made from few =
    let known : IsKnown seed j k records s = record { records_are = read; number = made.0; code = made.1; epoch = epoch; from = from; to = omega (arith, few) } in
    (is_usable seed j k records s known, usable_from seed j records x y z read epoch (k + 1) sats made.2 (omega (arith, from)) (omega (arith, few)))

pub usable_in_each : (seed : ℕ) (records : List NavRecord) (settings : Settings)
    → records_of records ≡ made_records seed
    → value_of_settings settings ≡ settings_of (centre_x seed) (centre_y seed) (centre_z seed)
    → (index j : ℕ) (epochs : List EpochCodes) → AreMadeEpochs seed j epochs
    → j + length epochs ≤ 240
    → AllByRecursion (AreUsable records settings) (observed_from index epochs)
unfolding sight
usable_in_each seed records settings read value index j [] made few = tt
usable_in_each seed records settings read value index j (e ∷ epochs) made few =
    let epoch : j < 240 = omega (arith, few) in
    let usable = usable_from seed j records (centre_x seed) (centre_y seed) (centre_z seed) read epoch 1 e.sats.items made.0.sats (lit≤ tt) (omega (arith, made.0.eight)) in
    let timed = subst (λ (tag : ℤ). UsableBy records (settings_of (centre_x seed) (centre_y seed) (centre_z seed)) tag (map sat_of e.sats.items)) (sym (epoch_time seed j e made.0 epoch)) usable in (
      subst (λ (v : SettingsValue). UsableBy records v (pos (gps_time 2024 1 7 e.hour e.minute (e.second * 10000000))) (map sat_of e.sats.items)) (sym value) timed,
      usable_in_each seed records settings read value (index + 1) (j + 1) epochs made.1 (omega (arith, few)),
    )
