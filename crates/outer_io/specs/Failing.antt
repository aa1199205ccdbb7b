-- Which of the calls to come are to fail.
use Rattle.std.specs.Prelude.{ℕ, ◌+◌, ◌-◌, ◌^◌, min, Contains}
use Rattle.outer_io.specs.declared.failing_calls.FailingCalls.{FailingCalls}

-- the call of this number is listed, where the next call has number 1
abbrev pub IsListed : FailingCalls → ℕ → Type 0
IsListed calls k = Contains calls.numbers.items (min (calls.made + k) (2 ^ 64 - 1))
