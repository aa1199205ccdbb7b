-- By which numbers the code knows the constants of the systems. No public clause cites this.
use Rattle.std.specs.Prelude.{ℕ}
use Rattle.gnss_model.specs.declared.systems.System.{System}
use Rattle.gnss_model.specs.declared.systems.System.TheVariants.{Gps, Galileo}

-- the root of mu, in 10^-29 m^(3/2)/s, cut off
abbrev pub gravity_root : System → ℕ
gravity_root Gps = 1996498184321738871137506654200683933
gravity_root (Galileo message) = 1996498038566529621522984984755848627
