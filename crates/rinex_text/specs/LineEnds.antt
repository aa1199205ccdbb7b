-- The CR before the LF of a line, which the reader drops. No public clause cites this.
use Rattle.std.specs.Prelude.{ℕ, Bool, ◌==◌, ◌-◌, cond, List, length, take, get_or}

abbrev pub ends_with_cr : List ℕ → Bool
ends_with_cr line = get_or line (length line - 1) 0 == 13

-- a line without one CR at its end
abbrev pub without_cr : List ℕ → List ℕ
without_cr line = cond (ends_with_cr line) (take (length line - 1) line) line
