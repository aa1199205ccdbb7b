-- The constants of IS-GPS-200, in the units of the chains: mu and the earth's rotation rate stand
-- in table 20-IV, F in section 20.3.3.3.3.1.
use Rattle.std.specs.Prelude.{ℕ, ◌^◌}

-- mu, the earth's gravitational constant, in m^3/s^2
abbrev pub gravity : ℕ
gravity = 398600500000000

-- the earth's rotation rate, in 10^-22 rad/s
abbrev pub earth_rate : ℕ
earth_rate = 729211514670000000

-- the speed of light, in m/s
abbrev pub light_speed : ℕ
light_speed = 299792458

-- minus F, the constant of the relativistic correction, in 10^-19 s/m^(1/2)
abbrev pub relativity : ℕ
relativity = 4442807633

-- a rate in 10^-22 per s over a time in ps is a number in 10^-34; there are so many in one of
-- 10^-16
abbrev pub rate_scale : ℕ
rate_scale = 10 ^ 18
