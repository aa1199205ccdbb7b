-- What a satellite is judged to be.
use Rattle.std.specs.Prelude.{◌≡◌, Some}
use Rattle.grid_model.specs.Boxes.{GridBox}
use Rattle.gnss_model.specs.Pseudorange.{Codes}
use Rattle.gnss_model.specs.declared.elements.Elements.{Elements}
use Rattle.gnss_model.specs.declared.delays.Delays.{Delays}
use Rattle.usable_sats.specs.Measured.{codes_of}
use Rattle.usable_sats.specs.Usability.{Sighting, IsUsable, IsSkip, IsHigh, IsJudged}
use Rattle.usable_sats.specs.declared.judging.Judgement.{Judgement}
use Rattle.usable_sats.specs.declared.judging.Judgement.TheVariants.{Usable, Skipped}

-- the satellite is usable, and known by these codes and elements
pub record IsKnownBy (a : Sighting) (codes : Codes) (el : Elements) : Type 0 where
  pub usable : IsUsable a
  pub codes_are : usable.measured.codes ≡ codes
  pub el_is : usable.el ≡ el

-- by the tests of the satellite itself
abbrev pub IsOwnJudgement : Sighting → Judgement → Type 0
IsOwnJudgement a (Usable codes el) = IsKnownBy a (codes_of codes) el
IsOwnJudgement a (Skipped skip) = IsSkip a skip

-- and by that of the search box, for the delays that are declared straight up
abbrev pub IsJudgement : Delays → GridBox → Sighting → Judgement → Type 0
IsJudgement delays root a (Usable codes el) = IsKnownBy a (codes_of codes) el × IsHigh delays root
IsJudgement delays root a (Skipped skip) = IsJudged delays root a (Some skip)
