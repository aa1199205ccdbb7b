-- The codes of a satellite as the code keeps them.
use Rattle.std.specs.Prelude.{None, Some}
use Rattle.gnss_model.specs.Pseudorange.{Codes}
use Rattle.usable_sats.specs.declared.codes.Measured.{Measured}
use Rattle.usable_sats.specs.declared.codes.Measured.TheVariants.{Single, Dual}

abbrev pub codes_of : Measured → Codes
codes_of (Single first) = record { first = first; second = None }
codes_of (Dual first second) = record { first = first; second = Some second }
