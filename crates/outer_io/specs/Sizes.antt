-- How long a file may be.
use Rattle.std.specs.Prelude.{ℕ}

-- the greatest length in bytes of a file that is read or written, so that 32 bits number its lines
abbrev pub longest_file : ℕ
longest_file = 4000000000
