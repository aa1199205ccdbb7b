-- What the equations allow of a usable satellite, as seen from a point: its values come from one
-- pseudorange, one clock chain, one orbit chain at the time of sending, one turn of the earth, and
-- one mapping of each delay that is declared straight up.
use Rattle.std.specs.Prelude.{ℕ, ◌≡◌, ℤ, pos, ◌+ℤ◌, Option, None, Some}
use Rattle.gnss_model.specs.ChainValues.{Observed, ChainValue}
use Rattle.gnss_model.specs.Mapping.{Mapping, IsMappedDelay}
use Rattle.grid_model.specs.declared.boxes.Pos.{Pos}
use Rattle.gnss_model.specs.declared.delays.Delays.{Delays}
use Rattle.gnss_model.specs.declared.delays.Layer.{Layer}
use Rattle.gnss_model.specs.declared.delays.Layer.TheVariants.{Troposphere, Ionosphere}
use Rattle.grid_model.specs.declared.spans.Span.{Span}
use Rattle.usable_sats.specs.Usability.{Sighting, IsUsable}

-- the turned place, the corrected pseudorange, the range, and the ends between which the error is
-- declared to lie, in um
pub record Chain : Type 0 where
  pub x : ℤ
  pub y : ℤ
  pub z : ℤ
  pub corrected : ℤ
  pub range : ℕ
  pub lo : ℤ
  pub hi : ℤ

-- what a usable satellite is known by
abbrev pub observed : (a : Sighting) → IsUsable a → Observed
observed a usable =
    record { system = a.system; tag = a.tag; codes = usable.measured.codes; el = usable.el }

-- the equations allow these values of what was observed, as seen from p
abbrev pub IsChainOf : Observed → Pos → Chain → Type 0
IsChainOf seen p c = ChainValue seen p c.x c.y c.z c.corrected c.range

-- what both ends of a span straight up become by one mapping of the layer
pub record IsMappedSpan (layer : Layer) (upward : Span) (p : Pos) (c : Chain)
    (delay : ℤ × ℤ) : Type 0 where
  pub factor : ℤ
  pub factor_is : Mapping layer p c.x c.y c.z c.range factor
  pub low : IsMappedDelay upward.lo factor delay.0
  pub high : IsMappedDelay upward.hi factor delay.1

-- ... where one is declared, and else 0
abbrev pub IsDelay : Layer → Option Span → Pos → Chain → ℤ × ℤ → Type 0
IsDelay layer None p c delay = delay ≡ (pos 0, pos 0)
IsDelay layer (Some upward) p c delay = IsMappedSpan layer upward p c delay

-- the ends are the declared ones, with both delays added
pub record IsBound (delays : Delays) (declared : ℤ × ℤ) (p : Pos) (c : Chain) : Type 0 where
  pub zenith : ℤ × ℤ
  pub zenith_is : IsDelay Troposphere delays.zenith p c zenith
  pub vertical : ℤ × ℤ
  pub vertical_is : IsDelay Ionosphere delays.vertical p c vertical
  pub lo_is : c.lo ≡ (declared.0 +ℤ zenith.0) +ℤ vertical.0
  pub hi_is : c.hi ≡ (declared.1 +ℤ zenith.1) +ℤ vertical.1

-- the equations and the bounds allow these values
abbrev pub AreValues : Delays → ℤ × ℤ → Observed → Pos → Chain → Type 0
AreValues delays declared seen p c = IsChainOf seen p c × IsBound delays declared p c

-- ... of a usable satellite, by the delays straight up and the sum of its declared spans
pub record IsChainAt (a : Sighting) (delays : Delays) (declared : ℤ × ℤ) (p : Pos)
    (c : Chain) : Type 0 where
  pub usable : IsUsable a
  pub are : AreValues delays declared (observed a usable) p c
