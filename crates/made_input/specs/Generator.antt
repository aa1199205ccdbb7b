-- The linear congruential generator of D. E. Knuth's MMIX (The Art of Computer Programming, volume
-- 2, 3.3.4): a state of 64 bits, whose upper 31 make a draw.
use Rattle.std.specs.Prelude.{ℕ, zero, suc, ◌+◌, ◌*◌, ◌/◌, ◌%◌, ◌^◌}

unfoldable pub next_state : ℕ → ℕ
next_state x = (6364136223846793005 * x + 1442695040888963407) % 2 ^ 64

-- the state behind so many draws
unfoldable pub state_behind : ℕ → ℕ → ℕ
state_behind seed zero = seed
state_behind seed (suc i) = next_state (state_behind seed i)

-- draw number i, from 0 on, of the numbers below n
unfoldable pub drawn : ℕ → ℕ → ℕ → ℕ
drawn seed i n = next_state (state_behind seed i) / 2 ^ 33 % n
