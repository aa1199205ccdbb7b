-- Lengths in metres and times in seconds, as text.
use Rattle.std.specs.Prelude.{ℕ, suc, ◌/◌, ◌^◌, ℤ, pos, negsuc, List, ◌∷◌, ◌++◌}
use Rattle.std.specs.Fmt.{decimal}
use Rattle.decimal_digits.specs.Digits.{last_digits}

-- n parts, of which 10^k are a whole: the wholes, a point, and k digits of what is left
abbrev pub with_point : ℕ → ℕ → List ℕ
with_point k n = decimal (n / 10 ^ k) ++ 46 ∷ last_digits k n

-- the same with a minus exactly where the number is negative
abbrev pub signed_with_point : ℕ → ℤ → List ℕ
signed_with_point k (pos n) = with_point k n
signed_with_point k (negsuc n) = 45 ∷ with_point k (suc n)

-- a length in um, as metres with six decimals
unfoldable pub metres_text : ℤ → List ℕ
metres_text um = signed_with_point 6 um

-- a time in ps, as seconds with twelve decimals
unfoldable pub seconds_text : ℤ → List ℕ
seconds_text ps = signed_with_point 12 ps
