-- What reading a slot to its end answers.
use Rattle.std.specs.Prelude.{◌<◌, ℕ, List, length, Option, None, Some}

-- more than the limit is left, where that is told
abbrev pub IsTooLong : Option (List ℕ) → ℕ → Type 0
IsTooLong None limit = Unit {0}
IsTooLong (Some left) limit = limit < length left
