-- The Taylor sums of sine and cosine as exact fractions, and the values between two of them.
use Rattle.std.specs.Prelude.{ℕ, zero, suc, ◌-◌, ◌*◌, ◌^◌, ◌/◌, List, [], ◌∷◌, ◌⊎◌, ℤ, pos, ◌+ℤ◌}
use Rattle.std.specs.Prelude.{◌-ℤ◌, ◌*ℤ◌, ◌≤ℤ◌}
use Rattle.grid_model.specs.Angles.{unit}

-- n (n - 1) .. 1
abbrev pub factorial : ℕ → ℕ
factorial zero = 1
factorial (suc n) = suc n * factorial n

-- r^n
abbrev pub power : ℤ → ℕ → ℤ
power r zero = pos 1
power r (suc n) = r *ℤ power r n

-- The fractions of a sum to the degree `last` have this denominator.
abbrev pub taylor_den : ℕ → ℕ
taylor_den last = factorial last * unit ^ last

-- the term (r / unit)^n / n!, as a numerator
abbrev pub term : ℕ → ℤ → ℕ → ℤ
term last r n = power r n *ℤ pos (unit ^ (last - n) * (factorial last / factorial n))

-- the terms of these degrees with changing signs: the first, less the second, and so on
abbrev pub taylor_sum : ℕ → ℤ → List ℕ → ℤ
taylor_sum last r [] = pos 0
taylor_sum last r (n ∷ ns) = term last r n -ℤ taylor_sum last r ns

-- ---- the degrees of the sums: sin x = x - x^3/3! + .. and cos x = 1 - x^2/2! + ..

abbrev pub odd_to_15 : List ℕ
odd_to_15 = 1 ∷ 3 ∷ 5 ∷ 7 ∷ 9 ∷ 11 ∷ 13 ∷ 15 ∷ []

abbrev pub odd_to_17 : List ℕ
odd_to_17 = 1 ∷ 3 ∷ 5 ∷ 7 ∷ 9 ∷ 11 ∷ 13 ∷ 15 ∷ 17 ∷ []

abbrev pub even_to_16 : List ℕ
even_to_16 = 0 ∷ 2 ∷ 4 ∷ 6 ∷ 8 ∷ 10 ∷ 12 ∷ 14 ∷ 16 ∷ []

abbrev pub even_to_18 : List ℕ
even_to_18 = 0 ∷ 2 ∷ 4 ∷ 6 ∷ 8 ∷ 10 ∷ 12 ∷ 14 ∷ 16 ∷ 18 ∷ []

-- ---- the values

-- (s + 1) / unit is at least num / den
abbrev pub AtLeast : ℤ → ℕ → ℤ → Type 0
AtLeast num den s = (pos unit *ℤ num) ≤ℤ ((s +ℤ pos 1) *ℤ pos den)

-- (s - 1) / unit is at most num / den
abbrev pub AtMost : ℤ → ℕ → ℤ → Type 0
AtMost num den s = ((s -ℤ pos 1) *ℤ pos den) ≤ℤ (pos unit *ℤ num)

-- s / unit lies between the lesser of n / d and m / e and the greater, with one unit more on each
-- side
pub record BetweenSums (n m : ℤ) (d e : ℕ) (s : ℤ) : Type 0 where
  pub low : AtLeast n d s ⊎ AtLeast m e s
  pub high : AtMost n d s ⊎ AtMost m e s

-- s is a value of the sine at r: between the sums of degree 15 and 17
unfoldable pub SineAt : ℤ → ℤ → Type 0
SineAt r s = BetweenSums (taylor_sum 15 r odd_to_15) (taylor_sum 17 r odd_to_17) (taylor_den 15)
    (taylor_den 17) s

-- s is a value of the cosine at r: between the sums of degree 16 and 18
unfoldable pub CosineAt : ℤ → ℤ → Type 0
CosineAt r s = BetweenSums (taylor_sum 16 r even_to_16) (taylor_sum 18 r even_to_18) (taylor_den 16)
    (taylor_den 18) s
