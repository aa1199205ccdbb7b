-- A record has one value for its elements.
use Rattle.std.proofs.Common.{◌≡◌, arith, ◌∙◌, sym, subst}
use Rattle.std.specs.Prelude.{ℤ, pos, neg_ℤ, ◌+ℤ◌, ◌≤ℤ◌, ◌<ℤ◌}
use Rattle.std.proofs.lemmas.Int.{ints}
use Rattle.std.proofs.Math.Dec.{T_prop}
use mathlib.Core.Path.{PathP}
use mathlib.Core.HLevel.{is_prop→PathP}
use Rattle.exact_decimal.specs.declared.decimal.Decimal.{Decimal}
use Rattle.exact_decimal.specs.declared.unit.Unit.{Unit}
use Rattle.exact_decimal.proofs.Limits.{some_parts}
use Rattle.rinex_nav.specs.ElementsOf.{IsRounded, AreElements}
use Rattle.rinex_nav.specs.Weeks.{IsNearestWeek}
use Rattle.rinex_nav.specs.declared.record.NavRecord.{NavRecord}
use Rattle.gnss_model.specs.RecordBounds.{LiesFrom, IsNearTime, offset_bound, drift_bound, ageing_bound, delay_bound, angle_bound, rate_bound, angle_swing_bound, radius_swing_bound, eccentricity_bound, least_root_a, greatest_root_a, week, time_bound}
use Rattle.grid_model.specs.Rounding.{IsCeiling}
use Rattle.gnss_model.specs.declared.elements.Elements.{Elements}
use Rattle.grid_model.specs.declared.spans.Wide.{Wide}
use Rattle.grid_model.proofs.ProductLemmas.{add_mul, mul_lt_back}
use Rattle.grid_model.proofs.OrderLemmas.{le_prop, lt_prop}
use Rattle.grid_model.proofs.RoundingLemmas.{floor_only as one_floor}
use Rattle.rinex_nav.proofs.WeekLemmas.{week_only as one_week}

-- ---- numbers

at_most_ceiling : (n d p q : ℤ) → pos 0 <ℤ d → IsCeiling n d p → IsCeiling n d q → p ≤ℤ q
at_most_ceiling n d p q some f g =
    let k : p <ℤ (q +ℤ pos 1) = mul_lt_back p (q +ℤ pos 1) d some (omega (arith, ints, add_mul q (pos 1) d, f.lt, g.ge)) in
    omega (arith, ints)

one_ceiling : (n d p q : ℤ) → pos 0 <ℤ d → IsCeiling n d p → IsCeiling n d q → p ≡ q
one_ceiling n d p q some f g = omega (arith, ints, at_most_ceiling n d p q some f g, at_most_ceiling n d q p some g f)

-- ---- facts

lies_prop : (low high : ℤ) (w : Wide) (p q : LiesFrom low high w) → p ≡ q
lies_prop low high w = hlevel T_prop

near_prop : (toc start : ℤ) (toe : Wide) (p q : IsNearTime toc start toe) → p ≡ q
near_prop toc start toe = hlevel T_prop

-- ---- fields

same_wide : (a b : Wide) → a.lo ≡ b.lo → a.hi ≡ b.hi → a ≡ b
same_wide a b p q = λ i. record { lo = p i; hi = q i; ordered = is_prop→PathP (λ j. p j ≤ℤ q j) (λ j. le_prop (p j) (q j)) a.ordered b.ordered i }

pub one_rounded : (number : Decimal) (unit : Unit) (a b : Wide) → IsRounded a number unit
    → IsRounded b number unit → a ≡ b
one_rounded number unit a b f g =
    same_wide a b
    (one_floor _ _ a.lo b.lo (some_parts number.ten unit) f.floor g.floor)
    (one_ceiling _ _ a.hi b.hi (some_parts number.ten unit) f.ceiling g.ceiling)

same_lies : (low high : ℤ) (a b : Wide) (p : a ≡ b) (f : LiesFrom low high a) (g : LiesFrom low high b)
    → PathP (λ i. LiesFrom low high (p i)) f g
same_lies low high a b p f g = is_prop→PathP (λ j. LiesFrom low high (p j)) (λ j. lies_prop low high (p j)) f g

-- ---- elements

pub same_elements : (r : NavRecord) (a b : Elements) → AreElements r a → AreElements r b → a ≡ b
same_elements r a b f g =
    let toc = f.toc ∙ sym g.toc in
    let toe_week = one_rounded _ _ a.toe_week b.toe_week f.toe_week g.toe_week in
    let af0 = one_rounded _ _ a.af0 b.af0 f.af0 g.af0 in
    let af1 = one_rounded _ _ a.af1 b.af1 f.af1 g.af1 in
    let af2 = one_rounded _ _ a.af2 b.af2 f.af2 g.af2 in
    let tgd = one_rounded _ _ a.tgd b.tgd f.tgd g.tgd in
    let root_a = one_rounded _ _ a.root_a b.root_a f.root_a g.root_a in
    let e = one_rounded _ _ a.e b.e f.e g.e in
    let m0 = one_rounded _ _ a.m0 b.m0 f.m0 g.m0 in
    let dn = one_rounded _ _ a.dn b.dn f.dn g.dn in
    let cuc = one_rounded _ _ a.cuc b.cuc f.cuc g.cuc in
    let cus = one_rounded _ _ a.cus b.cus f.cus g.cus in
    let crc = one_rounded _ _ a.crc b.crc f.crc g.crc in
    let crs = one_rounded _ _ a.crs b.crs f.crs g.crs in
    let cic = one_rounded _ _ a.cic b.cic f.cic g.cic in
    let cis = one_rounded _ _ a.cis b.cis f.cis g.cis in
    let i0 = one_rounded _ _ a.i0 b.i0 f.i0 g.i0 in
    let idot = one_rounded _ _ a.idot b.idot f.idot g.idot in
    let om0 = one_rounded _ _ a.om0 b.om0 f.om0 g.om0 in
    let om_dot = one_rounded _ _ a.om_dot b.om_dot f.om_dot g.om_dot in
    let omega = one_rounded _ _ a.omega b.omega f.omega g.omega in
    let start = one_week r.toc b.toe_week.lo a.week_start b.week_start (subst (λ (w : Wide). IsNearestWeek r.toc w.lo a.week_start) toe_week f.week_start) g.week_start in
    λ i. record {
      toc = toc i;
      week_start = start i;
      toe_week = toe_week i;
      af0 = af0 i;
      af1 = af1 i;
      af2 = af2 i;
      tgd = tgd i;
      root_a = root_a i;
      e = e i;
      m0 = m0 i;
      dn = dn i;
      cuc = cuc i;
      cus = cus i;
      crc = crc i;
      crs = crs i;
      cic = cic i;
      cis = cis i;
      i0 = i0 i;
      idot = idot i;
      om0 = om0 i;
      om_dot = om_dot i;
      omega = omega i;
      toc_from = is_prop→PathP (λ j. pos 0 ≤ℤ toc j) (λ j. le_prop (pos 0) (toc j)) a.toc_from b.toc_from i;
      toc_under = is_prop→PathP (λ j. toc j <ℤ pos time_bound) (λ j. lt_prop (toc j) (pos time_bound)) a.toc_under b.toc_under i;
      toc_near = is_prop→PathP (λ j. IsNearTime (toc j) (start j) (toe_week j)) (λ j. near_prop (toc j) (start j) (toe_week j)) a.toc_near b.toc_near i;
      toe_within = same_lies (pos 0) (pos week) a.toe_week b.toe_week toe_week a.toe_within b.toe_within i;
      toe_under = is_prop→PathP (λ j. (toe_week j).lo <ℤ pos week) (λ j. lt_prop (toe_week j).lo (pos week)) a.toe_under b.toe_under i;
      af0_within = same_lies (neg_ℤ (pos offset_bound)) (pos offset_bound) a.af0 b.af0 af0 a.af0_within b.af0_within i;
      af1_within = same_lies (neg_ℤ (pos drift_bound)) (pos drift_bound) a.af1 b.af1 af1 a.af1_within b.af1_within i;
      af2_within = same_lies (neg_ℤ (pos ageing_bound)) (pos ageing_bound) a.af2 b.af2 af2 a.af2_within b.af2_within i;
      tgd_within = same_lies (neg_ℤ (pos delay_bound)) (pos delay_bound) a.tgd b.tgd tgd a.tgd_within b.tgd_within i;
      root_a_within = same_lies (pos least_root_a) (pos greatest_root_a) a.root_a b.root_a root_a a.root_a_within b.root_a_within i;
      e_within = same_lies (pos 0) (pos eccentricity_bound) a.e b.e e a.e_within b.e_within i;
      m0_within = same_lies (neg_ℤ (pos angle_bound)) (pos angle_bound) a.m0 b.m0 m0 a.m0_within b.m0_within i;
      dn_within = same_lies (neg_ℤ (pos rate_bound)) (pos rate_bound) a.dn b.dn dn a.dn_within b.dn_within i;
      cuc_within = same_lies (neg_ℤ (pos angle_swing_bound)) (pos angle_swing_bound) a.cuc b.cuc cuc a.cuc_within b.cuc_within i;
      cus_within = same_lies (neg_ℤ (pos angle_swing_bound)) (pos angle_swing_bound) a.cus b.cus cus a.cus_within b.cus_within i;
      crc_within = same_lies (neg_ℤ (pos radius_swing_bound)) (pos radius_swing_bound) a.crc b.crc crc a.crc_within b.crc_within i;
      crs_within = same_lies (neg_ℤ (pos radius_swing_bound)) (pos radius_swing_bound) a.crs b.crs crs a.crs_within b.crs_within i;
      cic_within = same_lies (neg_ℤ (pos angle_swing_bound)) (pos angle_swing_bound) a.cic b.cic cic a.cic_within b.cic_within i;
      cis_within = same_lies (neg_ℤ (pos angle_swing_bound)) (pos angle_swing_bound) a.cis b.cis cis a.cis_within b.cis_within i;
      i0_within = same_lies (neg_ℤ (pos angle_bound)) (pos angle_bound) a.i0 b.i0 i0 a.i0_within b.i0_within i;
      idot_within = same_lies (neg_ℤ (pos rate_bound)) (pos rate_bound) a.idot b.idot idot a.idot_within b.idot_within i;
      om0_within = same_lies (neg_ℤ (pos angle_bound)) (pos angle_bound) a.om0 b.om0 om0 a.om0_within b.om0_within i;
      om_dot_within = same_lies (neg_ℤ (pos rate_bound)) (pos rate_bound) a.om_dot b.om_dot om_dot a.om_dot_within b.om_dot_within i;
      omega_within = same_lies (neg_ℤ (pos angle_bound)) (pos angle_bound) a.omega b.omega omega a.omega_within b.omega_within i;
    }
