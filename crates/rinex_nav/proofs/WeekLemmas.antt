-- The week that brings a time in it nearest to the clock time.
use Rattle.std.proofs.Common.{◌≡◌, ◌*◌, ◌^◌, arith, rules, FitsSigned, ap, sym, subst, ◌∙◌}
use Rattle.std.specs.Prelude.{ℤ, pos, neg_ℤ, ◌+ℤ◌, ◌-ℤ◌, ◌*ℤ◌, ◌≤ℤ◌, ◌<ℤ◌, unsigned_abs}
use Rattle.std.specs.Int.{w128}
use Rattle.std.proofs.lemmas.Int.{ints}
use Rattle.exact_decimal.specs.declared.unit.Unit.TheVariants.{Time}
use Rattle.exact_decimal.proofs.Limits.{some_parts}
use Rattle.gnss_model.specs.RecordBounds.{week, LiesFrom, IsNearTime}
use Rattle.grid_model.specs.Sizes.{IsWithin}
use Rattle.grid_model.specs.declared.spans.Wide.{Wide}
use Rattle.grid_model.specs.Rounding.{IsFloor}
use Rattle.grid_model.proofs.RoundingLemmas.{floor_only}
use Rattle.rinex_nav.specs.Weeks.{IsNearestWeek, IsEphemerisTime, IsAge}
use Rattle.rinex_nav.specs.FieldBounds.{field_of}
use Rattle.rinex_nav.specs.declared.record.NavRecord.{NavRecord}

pub nearest_is : (toc toe weeks start : ℤ)
    → IsFloor ((toc -ℤ toe) +ℤ pos 302400000000000000) (pos 604800000000000000) weeks
    → start ≡ weeks *ℤ pos 604800000000000000 → IsNearestWeek toc toe start
nearest_is toc toe weeks start f e = record {
  weeks = weeks;
  start_is = e;
  after = let h : neg_ℤ (pos 302400000000000000) <ℤ ((start +ℤ toe) -ℤ toc) = omega (arith, ints, e, f.gt) in h;
  before = let h : ((start +ℤ toe) -ℤ toc) ≤ℤ pos 302400000000000000 = omega (arith, ints, e, f.le) in h;
}

-- the ephemeris time is near the clock time
pub time_size : (toc toe start : ℤ) → IsNearestWeek toc toe start → pos 0 ≤ℤ toc
    → toc <ℤ pos 4000000000000000000000 → pos 0 ≤ℤ toe → toe ≤ℤ pos 604800000000000000
    → IsWithin (5 * 10 ^ 21) start × IsWithin (10 ^ 22) (start +ℤ toe)
time_size toc toe start w a b c d =
    let after : neg_ℤ (pos 302400000000000000) <ℤ ((start +ℤ toe) -ℤ toc) = w.after in
    let before : ((start +ℤ toe) -ℤ toc) ≤ℤ pos 302400000000000000 = w.before in
    (record { low = omega (arith, ints); high = omega (arith, ints) }, record { low = omega (arith, ints); high = omega (arith, ints) })

within_second : (toc toe other start : ℤ) → IsNearestWeek toc toe start → toe ≤ℤ other
    → other ≤ℤ (toe +ℤ pos 1) → IsWithin 302401000000000000 (toc -ℤ (start +ℤ other))
within_second toc toe other start w low high =
    let after : neg_ℤ (pos 302400000000000000) <ℤ ((start +ℤ toe) -ℤ toc) = w.after in
    let before : ((start +ℤ toe) -ℤ toc) ≤ℤ pos 302400000000000000 = w.before in
    record { low = omega (arith, ints); high = omega (arith, ints) }

-- both ends of the ephemeris time are
pub is_near : (toc start : ℤ) (toe : Wide) → IsNearestWeek toc toe.lo start
    → LiesFrom (pos 0) (pos week) toe → IsNearTime toc start toe
is_near toc start toe w f = record {
  low = within_second toc toe.lo toe.lo start w (omega (arith, ints)) (omega (arith, ints));
  high = within_second toc toe.lo toe.hi start w toe.ordered f.narrow;
}

pub apart_fits : (a b : ℤ) → pos 0 ≤ℤ a → a <ℤ pos 4000000000000000000000 → IsWithin (10 ^ 22) b
    → FitsSigned w128 (a -ℤ b)
apart_fits a b from under size =
    let low : neg_ℤ (pos 10000000000000000000000) ≤ℤ b = size.low in
    let high : b ≤ℤ pos 10000000000000000000000 = size.high in
    search rules

-- ---- there is only one

pub week_only : (toc toe a b : ℤ) → IsNearestWeek toc toe a → IsNearestWeek toc toe b → a ≡ b
week_only toc toe a b v w =
    let ea : a ≡ v.weeks *ℤ pos 604800000000000000 = v.start_is in
    let eb : b ≡ w.weeks *ℤ pos 604800000000000000 = w.start_is in
    let a_after : neg_ℤ (pos 302400000000000000) <ℤ ((a +ℤ toe) -ℤ toc) = v.after in
    let a_before : ((a +ℤ toe) -ℤ toc) ≤ℤ pos 302400000000000000 = v.before in
    let b_after : neg_ℤ (pos 302400000000000000) <ℤ ((b +ℤ toe) -ℤ toc) = w.after in
    let b_before : ((b +ℤ toe) -ℤ toc) ≤ℤ pos 302400000000000000 = w.before in
    omega (arith, ints)

pub time_only : (r : NavRecord) (a b : ℤ) → IsEphemerisTime r a → IsEphemerisTime r b → a ≡ b
time_only r a b s t =
    let toe = floor_only _ _ s.toe t.toe (some_parts (field_of r.fields 11).ten Time) s.toe_is t.toe_is in
    let start = week_only r.toc t.toe s.start t.start (subst (λ (toe : ℤ). IsNearestWeek r.toc toe s.start) toe s.start_is) t.start_is in
    let sa = s.time_is in
    let tb = t.time_is in
    cc

pub age_only : (r : NavRecord) (tag a b : ℤ) → IsAge r tag a → IsAge r tag b → a ≡ b
age_only r tag a b (s, first, e) (t, second, f) =
    let same = time_only r s t first second in
    e ∙ (ap (λ (time : ℤ). pos (unsigned_abs (tag -ℤ time))) same ∙ sym f)
