-- The limit of a half-space.
use Rattle.std.specs.Prelude.{ℤ, neg_ℤ, pos, ◌≤ℤ◌}

-- within 10^20, or the limit of what lies beyond such a one: -H - 1
abbrev pub IsLimit : ℤ → Type 0
IsLimit n = (neg_ℤ (pos 100000000000000000001) ≤ℤ n) × (n ≤ℤ pos 100000000000000000000)
