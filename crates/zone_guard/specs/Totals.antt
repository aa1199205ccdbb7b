-- What is found over the epochs of a log.
use Rattle.std.specs.Prelude.{◌+◌, Option, None, Some}
use Rattle.std.specs.Int.{int_max, int_min}
use Rattle.zone_guard.specs.declared.found.Counts.{Counts}
use Rattle.zone_guard.specs.declared.planes.Extent.{Extent}
use Rattle.zone_guard.specs.declared.zone.ZoneAnswer.{ZoneAnswer}
use Rattle.zone_guard.specs.declared.zone.ZoneAnswer.TheVariants.{Outside, Inside, Open}

-- one epoch more
abbrev pub with_answer : Counts → ZoneAnswer → Counts
with_answer c Outside = record c { outside = c.outside + 1 }
with_answer c Inside = record c { inside = c.inside + 1 }
with_answer c Open = record c { undecided = c.undecided + 1 }

abbrev pub both : Extent → Extent → Extent
both d e = record { least = int_min d.least e.least; greatest = int_max d.greatest e.greatest }

-- the lesser of the low ends and the greater of the high ends
abbrev pub joined : Option Extent → Option Extent → Option Extent
joined None found = found
joined (Some d) None = Some d
joined (Some d) (Some e) = Some (both d e)
