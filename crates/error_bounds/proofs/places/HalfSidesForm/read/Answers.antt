use Rattle.std.proofs.Common.{sym}
use Rattle.error_bounds.specs.Forms.{each, is_half}
use Rattle.error_bounds.proofs.places.HalfSidesForm.read.Goals as goal

pub returns-in-Err-clause-value : goal.returns-in-Err-clause-value
returns-in-Err-clause-value c = rw (← rw c.in_default.is at c.as_integer.ensures) (sym (c.in-Err.ensures (each is_half)))
