use Rattle.std.proofs.Common.{refl}
use Rattle.error_bounds.specs.Forms.{each, is_coordinate}
use Rattle.error_bounds.proofs.places.PlaceForm.read.Goals as goal

pub returns-in-Err-clause-value : goal.returns-in-Err-clause-value
returns-in-Err-clause-value c = rw (← rw c.in_default.is at c.as_str.ensures, c.in-Err.ensures (each is_coordinate)) refl
