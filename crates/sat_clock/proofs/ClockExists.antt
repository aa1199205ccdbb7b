-- Every ephemeris has a mean motion, and every time with it a clock offset and a time of sending.
use Rattle.std.proofs.Common.{◌≡◌, ◌^◌, arith, refl}
use Rattle.std.specs.Prelude.{Bool, ℤ, pos, neg_ℤ, ◌+ℤ◌, ◌-ℤ◌, ◌*ℤ◌}
use Rattle.std.proofs.lemmas.Int.{ints}
use Rattle.gnss_model.specs.EarthModel.{rate_scale}
use Rattle.gnss_model.specs.ClockChain.{ClockFields, AreClockFields, ClockChain, ClockChainOf, less_delay}
use Rattle.gnss_model.specs.MeanMotion.{MeanMotion, MeanMotionOf}
use Rattle.gnss_model.specs.Systems.{relativity_of}
use Rattle.gnss_model.specs.declared.elements.Elements.{Elements}
use Rattle.gnss_model.specs.declared.systems.System.{System}
use Rattle.gnss_model.specs.declared.systems.System.TheVariants.{Gps}
use Rattle.grid_model.proofs.IntervalLemmas.{low_member}
use Rattle.fix_interval.proofs.NearLemmas.{near_exists}
use Rattle.interval_trig.proofs.Existence.{sine_exists}
use Rattle.kepler_enclosure.proofs.Existence.{kepler_exists}
use Rattle.sat_clock.proofs.MotionLemmas.{root_has_motion}

motion_exists : (y : System) (el : Elements) → (n : ℤ) × MeanMotionOf y el n
motion_exists y el =
    let n = root_has_motion y el.root_a.lo (omega (arith, ints, el.root_a_within.from)) in
    (pos n.0 +ℤ el.dn.lo, record { root_a = el.root_a.lo; dn = el.dn.lo; root_a_is = low_member _ _ el.root_a.ordered; dn_is = low_member _ _ el.dn.ordered; n0 = n.0; n0_is = n.1; n_is = refl })

pub system_clock_exists : (y : System) (el : Elements) (single : Bool) (tsv : ℤ)
    → (n : ℤ) × (motion : MeanMotionOf y el n) × (dt : ℤ) × (t : ℤ) × (clock : ClockChainOf y el single n tsv dt t) × (clock.f.root_a ≡ motion.root_a)
unfolding motion_exists
system_clock_exists y el single tsv =
    let motion = motion_exists y el in
    let n = motion.0 in
    let f : ClockFields = record { af0 = el.af0.lo; af1 = el.af1.lo; af2 = el.af2.lo; tgd = el.tgd.lo; root_a = el.root_a.lo; e = el.e.lo; m0 = el.m0.lo; toe_week = el.toe_week.lo } in
    let fields : AreClockFields el f = record {
      af0_is = low_member _ _ el.af0.ordered;
      af1_is = low_member _ _ el.af1.ordered;
      af2_is = low_member _ _ el.af2.ordered;
      tgd_is = low_member _ _ el.tgd.ordered;
      root_a_is = low_member _ _ el.root_a.ordered;
      e_is = low_member _ _ el.e.ordered;
      m0_is = low_member _ _ el.m0.ordered;
      toe_is = low_member _ _ el.toe_week.ordered;
    } in
    let drift = near_exists ((f.af1 *ℤ pos rate_scale) +ℤ (f.af2 *ℤ (tsv -ℤ el.toc))) (pos rate_scale) (record { lt = tt }) in
    let offset = near_exists ((f.af0 *ℤ pos rate_scale) +ℤ (drift.0 *ℤ (tsv -ℤ el.toc))) (pos rate_scale) (record { lt = tt }) in
    let base = less_delay single offset.0 f.tgd in
    let about = near_exists ((tsv *ℤ pos (10 ^ 4)) -ℤ base) (pos (10 ^ 4)) (record { lt = tt }) in
    let mean = near_exists ((f.m0 *ℤ pos rate_scale) +ℤ (n *ℤ (about.0 -ℤ (el.week_start +ℤ f.toe_week)))) (pos rate_scale) (record { lt = tt }) in
    let eccentric = kepler_exists mean.0 f.e el.e_within.from in
    let sine = sine_exists eccentric.0 in
    let relative = near_exists (neg_ℤ (((pos (relativity_of y) *ℤ f.e) *ℤ f.root_a) *ℤ sine.0)) (pos (10 ^ 47)) (record { lt = tt }) in
    let dt = base +ℤ relative.0 in
    let t = near_exists ((tsv *ℤ pos (10 ^ 4)) -ℤ dt) (pos (10 ^ 4)) (record { lt = tt }) in (
      n,
      motion.1,
      dt,
      t.0,
      record {
        f = f;
        fields = fields;
        drift = drift.0;
        drift_is = drift.1;
        offset = offset.0;
        offset_is = offset.1;
        base = base;
        base_is = refl;
        about = about.0;
        about_is = about.1;
        mean = mean.0;
        mean_is = mean.1;
        eccentric = eccentric.0;
        eccentric_is = eccentric.1;
        sine = sine.0;
        sine_is = sine.1;
        relative = relative.0;
        relative_is = relative.1;
        dt_is = refl;
        t_is = t.1;
      },
      refl,
    )

pub clock_exists : (el : Elements) (single : Bool) (tsv : ℤ)
    → (n : ℤ) × (motion : MeanMotion el n) × (dt : ℤ) × (t : ℤ) × (clock : ClockChain el single n tsv dt t) × (clock.f.root_a ≡ motion.root_a)
clock_exists el single tsv = system_clock_exists Gps el single tsv
