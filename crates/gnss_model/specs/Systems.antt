-- In what the chains of the systems differ: two constants, and the frequencies of the codes. Those
-- of GPS are in `EarthModel` and in IS-GPS-200, 20.3.3.3.3.3; those of Galileo in its OS SIS ICD,
-- sections on the frequency plan, the ephemeris and the satellite time correction. Both messages
-- of Galileo have one orbit and one form of the clock; they differ in the second frequency.
use Rattle.std.specs.Prelude.{ℕ}
use Rattle.gnss_model.specs.EarthModel.{gravity, relativity}
use Rattle.gnss_model.specs.declared.systems.System.{System}
use Rattle.gnss_model.specs.declared.systems.System.TheVariants.{Gps, Galileo}
use Rattle.gnss_model.specs.declared.systems.Message.TheVariants.{Fnav, Inav}

-- mu, in m^3/s^2
abbrev pub gravity_of : System → ℕ
gravity_of Gps = gravity
gravity_of (Galileo message) = 398600441800000

-- minus F, in 10^-19 s/m^(1/2)
abbrev pub relativity_of : System → ℕ
relativity_of Gps = relativity
relativity_of (Galileo message) = 4442807309

-- The squares of the frequencies of the first and the second code are as these, and how far these
-- are apart. L1, E1, L2, E5a and E5b are 154, 154, 120, 115 and 118 times 10.23 MHz.
abbrev pub first_square : System → ℕ
first_square Gps = 5929
first_square (Galileo message) = 23716

abbrev pub second_square : System → ℕ
second_square Gps = 3600
second_square (Galileo Fnav) = 13225
second_square (Galileo Inav) = 13924

abbrev pub squares_apart : System → ℕ
squares_apart Gps = 2329
squares_apart (Galileo Fnav) = 10491
squares_apart (Galileo Inav) = 9792
