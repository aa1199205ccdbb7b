-- The satellite's clock: how far it is off, and when a signal was sent (IS-GPS-200, 20.3.3.3.3.1
-- and 20.3.3.3.3.2), with one whole number for each equation. The equations of the orbit in it are
-- those of table 20-IV.
use Rattle.std.specs.Prelude.{◌≡◌, ◌^◌, ℤ, pos, neg_ℤ, ◌+ℤ◌, ◌-ℤ◌, ◌*ℤ◌, Bool, if◌then◌else◌}
use Rattle.gnss_model.specs.EarthModel.{rate_scale}
use Rattle.gnss_model.specs.Kepler.{Kepler}
use Rattle.gnss_model.specs.RecordBounds.{IsValue}
use Rattle.grid_model.specs.Rounding.{Near}
use Rattle.grid_model.specs.Sines.{Sine}
use Rattle.gnss_model.specs.Systems.{relativity_of}
use Rattle.gnss_model.specs.declared.elements.Elements.{Elements}
use Rattle.gnss_model.specs.declared.systems.System.{System}
use Rattle.gnss_model.specs.declared.systems.System.TheVariants.{Gps}

-- a value and what a rate adds to it over a time: rounded to a unit of the value
abbrev pub IsAdvanced : ℤ → ℤ → ℤ → ℤ → Type 0
IsAdvanced value rate time v = Near ((value *ℤ pos rate_scale) +ℤ (rate *ℤ time)) (pos rate_scale) v

-- a time in ps less an offset in 10^-16 s: rounded to ps
abbrev pub IsEarlier : ℤ → ℤ → ℤ → Type 0
IsEarlier time offset t = Near ((time *ℤ pos (10 ^ 4)) -ℤ offset) (pos (10 ^ 4)) t

-- a user of one frequency takes off the group delay
abbrev pub less_delay : Bool → ℤ → ℤ → ℤ
less_delay single offset delay = if single then offset -ℤ delay else offset

-- one number of each field that the clock takes
pub record ClockFields : Type 0 where
  pub af0 : ℤ
  pub af1 : ℤ
  pub af2 : ℤ
  pub tgd : ℤ
  pub root_a : ℤ
  pub e : ℤ
  pub m0 : ℤ
  pub toe_week : ℤ

pub record AreClockFields (el : Elements) (f : ClockFields) : Type 0 where
  pub af0_is : IsValue el.af0 f.af0
  pub af1_is : IsValue el.af1 f.af1
  pub af2_is : IsValue el.af2 f.af2
  pub tgd_is : IsValue el.tgd f.tgd
  pub root_a_is : IsValue el.root_a f.root_a
  pub e_is : IsValue el.e f.e
  pub m0_is : IsValue el.m0 f.m0
  pub toe_is : IsValue el.toe_week f.toe_week

-- dt is the clock's offset, in 10^-16 s, of a signal sent at tsv by the satellite's clock, and t is
-- when it was sent by GPS time, in ps. n is the mean motion.
pub record ClockChainOf (system : System) (el : Elements) (single : Bool)
    (n tsv dt t : ℤ) : Type 0 where
  pub f : ClockFields
  pub fields : AreClockFields el f
  -- af0 + af1 (tsv - toc) + af2 (tsv - toc)^2
  pub drift : ℤ
  pub drift_is : IsAdvanced f.af1 f.af2 (tsv -ℤ el.toc) drift
  pub offset : ℤ
  pub offset_is : IsAdvanced f.af0 drift (tsv -ℤ el.toc) offset
  -- less the group delay for one frequency, T_GD
  pub base : ℤ
  pub base_is : base ≡ less_delay single offset f.tgd
  -- tsv less the polynomial and the group delay
  pub about : ℤ
  pub about_is : IsEarlier tsv base about
  -- M_k = M_0 + n t_k, where t_k is from the ephemeris time to that time
  pub mean : ℤ
  pub mean_is : IsAdvanced f.m0 n (about -ℤ (el.week_start +ℤ f.toe_week)) mean
  -- M_k = E_k - e sin E_k
  pub eccentric : ℤ
  pub eccentric_is : Kepler mean f.e eccentric
  pub sine : ℤ
  pub sine_is : Sine eccentric sine
  -- dt_r = F e sqrt(A) sin E_k
  pub relative : ℤ
  pub relative_is : Near (neg_ℤ (((pos (relativity_of system) *ℤ f.e) *ℤ f.root_a) *ℤ sine))
      (pos (10 ^ 47)) relative
  pub dt_is : dt ≡ base +ℤ relative
  -- t = tsv - dt
  pub t_is : IsEarlier tsv dt t

-- of a GPS satellite
abbrev pub ClockChain : Elements → Bool → ℤ → ℤ → ℤ → ℤ → Type 0
ClockChain el single n tsv dt t = ClockChainOf Gps el single n tsv dt t
