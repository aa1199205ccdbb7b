-- The pseudorange of a satellite, when its signal was sent by the satellite's clock, and the
-- pseudorange less the clock's offset (IS-GPS-200, 20.3.3.3.3). Lengths are in um, times in ps.
use Rattle.std.specs.Prelude.{◌^◌, ℤ, pos, ◌+ℤ◌, ◌-ℤ◌, ◌*ℤ◌, Bool, true, false, Option, None, Some}
use Rattle.gnss_model.specs.EarthModel.{light_speed}
use Rattle.gnss_model.specs.RecordBounds.{IsValue}
use Rattle.grid_model.specs.Rounding.{Near}
use Rattle.gnss_model.specs.Systems.{first_square, second_square, squares_apart}
use Rattle.grid_model.specs.declared.spans.Wide.{Wide}
use Rattle.gnss_model.specs.declared.systems.System.{System}
use Rattle.gnss_model.specs.declared.systems.System.TheVariants.{Gps}

-- the measured codes: one, or a second on the other frequency
pub record Codes : Type 0 where
  pub first : Wide
  pub second : Option Wide

abbrev pub is_none : Option Wide → Bool
is_none None = true
is_none (Some code) = false

abbrev pub is_single : Codes → Bool
is_single codes = is_none codes.second

-- The ionosphere-free combination (20.3.3.3.3.3), by the squares of a system's frequencies.
abbrev pub IsFreeOf : System → ℤ → ℤ → ℤ → Type 0
IsFreeOf system p1 p2 pr = Near ((pos (first_square system) *ℤ p1)
    -ℤ (pos (second_square system) *ℤ p2)) (pos (squares_apart system)) pr

abbrev pub IsRangeWith : System → Wide → Option Wide → ℤ → Type 0
IsRangeWith system first None pr = IsValue first pr
IsRangeWith system first (Some second) pr =
    (p1 : ℤ) × (p2 : ℤ) × IsValue first p1 × IsValue second p2 × IsFreeOf system p1 p2 pr

-- pr is a pseudorange by the codes
abbrev pub IsRangeOf : System → Codes → ℤ → Type 0
IsRangeOf system codes pr = IsRangeWith system codes.first codes.second pr

-- of a GPS satellite
abbrev pub IsPseudorange : Codes → ℤ → Type 0
IsPseudorange codes pr = IsRangeOf Gps codes pr

-- the satellite's clock showed tsv when it sent what was received at tag: tag - pr / c
abbrev pub IsSent : ℤ → ℤ → ℤ → Type 0
IsSent tag pr tsv = Near ((tag *ℤ pos light_speed) -ℤ (pr *ℤ pos (10 ^ 6))) (pos light_speed) tsv

-- the pseudorange less the clock's offset dt: pr + c dt
abbrev pub IsCorrected : ℤ → ℤ → ℤ → Type 0
IsCorrected pr dt corrected =
    Near ((pr *ℤ pos (10 ^ 10)) +ℤ (pos light_speed *ℤ dt)) (pos (10 ^ 10)) corrected
