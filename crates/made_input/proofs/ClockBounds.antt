-- How far the clock of a made satellite is off: less than 0.1 ms.
use Rattle.std.proofs.Common.{◌≡◌, ℕ, ◌+◌, ◌*◌, ◌^◌, ◌≤◌, List, ap, subst, arith, lit≤}
use Rattle.std.specs.Prelude.{ℤ, pos, neg_ℤ, ◌+ℤ◌, ◌-ℤ◌, ◌*ℤ◌, ◌≤ℤ◌, ◌<ℤ◌, true}
use Rattle.std.proofs.lemmas.Int.{ints}
use Rattle.exact_decimal.specs.declared.decimal.Decimal.{Decimal}
use Rattle.exact_decimal.specs.declared.unit.Unit.TheVariants.{Clock, Rate, Drift}
use Rattle.interval_trig.proofs.Smoothness.{sine_value_small}
use Rattle.rinex_nav.specs.ElementsOf.{IsRounded, AreElements}
use Rattle.rinex_nav.specs.FieldBounds.{field_of}
use Rattle.rinex_nav.specs.Reading.{plain_record}
use Rattle.rinex_nav.specs.Records.{Broadcast}
use Rattle.rinex_nav.specs.declared.record.NavRecord.{NavRecord}
use Rattle.grid_model.specs.Angles.{unit}
use Rattle.gnss_model.specs.ClockChain.{ClockChain, IsAdvanced}
use Rattle.gnss_model.specs.EarthModel.{relativity, rate_scale}
use Rattle.gnss_model.specs.RecordBounds.{LiesFrom, IsValue, eccentricity_bound, least_root_a, greatest_root_a}
use Rattle.grid_model.specs.Rounding.{Near}
use Rattle.grid_model.specs.Sizes.{IsWithin}
use Rattle.gnss_model.specs.declared.elements.Elements.{Elements}
use Rattle.grid_model.specs.declared.spans.Wide.{Wide}
use Rattle.grid_model.proofs.ProductLemmas.{product_within}
use Rattle.made_input.specs.MadeRecords.{made_broadcast}

-- ---- the fields

pub record IsMadeClock (el : Elements) : Type 0 where
  pub af0 : (v : ℤ) → IsValue el.af0 v → IsWithin (8 * 10 ^ 11) v
  pub af1 : (v : ℤ) → IsValue el.af1 v → v ≡ pos 0
  pub af2 : (v : ℤ) → IsValue el.af2 v → v ≡ pos 0
  pub tgd : (v : ℤ) → IsValue el.tgd v → v ≡ neg_ℤ (pos 100000000)

af0_value : (k : ℕ) (w : Wide) (v : ℤ) → k ≤ 8 → (w.lo *ℤ pos 10) ≤ℤ pos (k * 10 ^ 12 * 1)
    → pos (k * 10 ^ 12 * 1) <ℤ ((w.lo *ℤ pos 10) +ℤ pos 10)
    → pos (k * 10 ^ 12 * 1) ≤ℤ (w.hi *ℤ pos 10)
    → (w.hi *ℤ pos 10) <ℤ (pos (k * 10 ^ 12 * 1) +ℤ pos 10)
    → IsValue w v → IsWithin (8 * 10 ^ 11) v
af0_value k w v few a b c d is = record { low = omega (arith, ints, b, is.from); high = omega (arith, ints, few, d, is.to) }

zero_value : (w : Wide) (v : ℤ) → pos 0 <ℤ ((w.lo *ℤ pos 1) +ℤ pos 1)
    → (w.hi *ℤ pos 1) <ℤ (pos 0 +ℤ pos 1) → IsValue w v → v ≡ pos 0
zero_value w v a b is = omega (arith, ints, a, b, is.from, is.to)

tgd_value : (w : Wide) (v : ℤ) → neg_ℤ (pos 1000000000000) <ℤ ((w.lo *ℤ pos 10000) +ℤ pos 10000)
    → (w.hi *ℤ pos 10000) <ℤ (neg_ℤ (pos 1000000000000) +ℤ pos 10000) → IsValue w v
    → v ≡ neg_ℤ (pos 100000000)
tgd_value w v a b is = omega (arith, ints, a, b, is.from, is.to)

pub made_clock : (k u : ℕ) (r : NavRecord) (el : Elements) → k ≤ 8
    → plain_record r ≡ made_broadcast k u → AreElements r el → IsMadeClock el
made_clock k u r el few numbers a =
    let fields : r.fields ≡ (made_broadcast k u).fields = ap (λ (b : Broadcast). b.fields) numbers in
    let af0 = subst (λ (fs : List Decimal). IsRounded el.af0 (field_of fs 1) Clock) fields a.af0 in
    let af1 = subst (λ (fs : List Decimal). IsRounded el.af1 (field_of fs 2) Rate) fields a.af1 in
    let af2 = subst (λ (fs : List Decimal). IsRounded el.af2 (field_of fs 3) Drift) fields a.af2 in
    let tgd = subst (λ (fs : List Decimal). IsRounded el.tgd (field_of fs 20) Clock) fields a.tgd in
    record {
      af0 = λ v. af0_value k el.af0 v few af0.floor.le af0.floor.gt af0.ceiling.ge af0.ceiling.lt;
      af1 = λ v. zero_value el.af1 v af1.floor.gt af1.ceiling.lt;
      af2 = λ v. zero_value el.af2 v af2.floor.gt af2.ceiling.lt;
      tgd = λ v. tgd_value el.tgd v tgd.floor.gt tgd.ceiling.lt;
    }

-- ---- the chain

-- a rate of at most one over less than the scale
drift_small : (rate time v : ℤ) → rate ≡ pos 0 → (drift : ℤ) → drift ≡ pos 0
    → IsAdvanced rate drift time v → IsWithin 1 v
drift_small rate time v zero drift none is =
    let a = rw (zero, none) at is.below in
    let b = rw (zero, none) at is.above in
    record { low = omega (arith, ints, b); high = omega (arith, ints, a) }

offset_small : (af0 drift time v : ℤ) → IsWithin (8 * 10 ^ 11) af0 → IsWithin 1 drift
    → IsWithin rate_scale time → IsAdvanced af0 drift time v → IsWithin (8 * 10 ^ 11 + 2) v
offset_small af0 drift time v a d t is =
    let p = product_within 1 rate_scale drift time d t in
    record { low = omega (arith, ints, a.low, p.low, is.above); high = omega (arith, ints, a.high, p.high, is.below) }

small_between : (low high n : ℕ) (w : Wide) (v : ℤ) → high ≤ n → LiesFrom (pos low) (pos high) w
    → IsValue w v → IsWithin n v
small_between low high n w v less lies is = record { low = omega (arith, ints, lies.from, is.from); high = omega (arith, ints, less, lies.to, is.to) }

relative_small : (num v : ℤ)
    → IsWithin (relativity * eccentricity_bound * greatest_root_a * (unit + 8)) num
    → Near (neg_ℤ num) (pos (10 ^ 47)) v → IsWithin (10 ^ 10) v
relative_small num v n is = record { low = omega (arith, ints, n.high, is.above); high = omega (arith, ints, n.low, is.below) }

one_factor : IsWithin relativity (pos relativity)
one_factor = record { low = record { le = tt }; high = record { le = tt } }

base_small : (offset tgd base relative dt : ℤ) → IsWithin (8 * 10 ^ 11 + 2) offset
    → tgd ≡ neg_ℤ (pos 100000000) → base ≡ offset -ℤ tgd → IsWithin (10 ^ 10) relative
    → dt ≡ base +ℤ relative → IsWithin (10 ^ 12) dt
base_small offset tgd base relative dt o t b r d = record { low = omega (arith, ints, o.low, t, b, r.low, d); high = omega (arith, ints, o.high, t, b, r.high, d) }

pub clock_small : (el : Elements) (n tsv dt t : ℤ) → IsMadeClock el
    → IsWithin rate_scale (tsv -ℤ el.toc) → ClockChain el true n tsv dt t → IsWithin (10 ^ 12) dt
clock_small el n tsv dt t made near c =
    let f = c.f in
    let F = c.fields in
    let drift = drift_small f.af1 (tsv -ℤ el.toc) c.drift (made.af1 f.af1 F.af1_is) f.af2 (made.af2 f.af2 F.af2_is) c.drift_is in
    let offset = offset_small f.af0 c.drift (tsv -ℤ el.toc) c.offset (made.af0 f.af0 F.af0_is) drift near c.offset_is in
    let e = small_between 0 eccentricity_bound eccentricity_bound el.e f.e (lit≤ tt) el.e_within F.e_is in
    let root = small_between least_root_a greatest_root_a greatest_root_a el.root_a f.root_a (lit≤ tt) el.root_a_within F.root_a_is in
    let sine = sine_value_small c.eccentric c.sine c.sine_is in
    let first = product_within relativity eccentricity_bound (pos relativity) f.e one_factor e in
    let second = product_within (relativity * eccentricity_bound) greatest_root_a (pos relativity *ℤ f.e) f.root_a first root in
    let third = product_within (relativity * eccentricity_bound * greatest_root_a) (unit + 8) ((pos relativity *ℤ f.e) *ℤ f.root_a) c.sine second sine in
    let relative = relative_small (((pos relativity *ℤ f.e) *ℤ f.root_a) *ℤ c.sine) c.relative third c.relative_is in
    base_small c.offset f.tgd c.base c.relative dt offset (made.tgd f.tgd F.tgd_is) c.base_is relative c.dt_is
