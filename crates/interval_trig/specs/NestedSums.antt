-- The Taylor sums in nested form, as the code computes them.
use Rattle.std.specs.Prelude.{ℕ, ◌-◌, ◌*◌, ◌^◌, ◌≤◌, List, [], ◌∷◌, ◌⊎◌, ℤ, pos, ◌+ℤ◌, ◌-ℤ◌, ◌*ℤ◌}
use Rattle.std.specs.Prelude.{◌≤ℤ◌, nat_abs}
use Rattle.grid_model.specs.Angles.{unit}

-- a little over half a quarter turn: no rest is more in amount
abbrev pub greatest_rest : ℕ
greatest_rest = 787 * 10 ^ 13

-- one, in the finer units of the point values
abbrev pub fine : ℕ
fine = 10 ^ 18

-- 1 - y/d1 (1 - y/d2 (1 - ..)), where y is square / unit^2: numerator and denominator
abbrev pub nested_den : List ℕ → ℕ
nested_den [] = 1
nested_den (d ∷ ds) = d * unit ^ 2 * nested_den ds

abbrev pub nested_num : ℕ → List ℕ → ℤ
nested_num y [] = pos 1
nested_num y (d ∷ ds) = pos (d * unit ^ 2 * nested_den ds) -ℤ (pos y *ℤ nested_num y ds)

-- the same numerator where no difference is negative, as it is while the square is at most unit^2
abbrev pub plain_num : ℕ → List ℕ → ℕ
plain_num y [] = 1
plain_num y (d ∷ ds) = d * unit ^ 2 * nested_den ds - y * plain_num y ds

-- the divisors of the sums of degree 15 and 17, and of degree 16 and 18
abbrev pub sine_15 : List ℕ
sine_15 = 2 * 3 ∷ 4 * 5 ∷ 6 * 7 ∷ 8 * 9 ∷ 10 * 11 ∷ 12 * 13 ∷ 14 * 15 ∷ []

abbrev pub sine_17 : List ℕ
sine_17 = 2 * 3 ∷ 4 * 5 ∷ 6 * 7 ∷ 8 * 9 ∷ 10 * 11 ∷ 12 * 13 ∷ 14 * 15 ∷ 16 * 17 ∷ []

abbrev pub cosine_16 : List ℕ
cosine_16 = 1 * 2 ∷ 3 * 4 ∷ 5 * 6 ∷ 7 * 8 ∷ 9 * 10 ∷ 11 * 12 ∷ 13 * 14 ∷ 15 * 16 ∷ []

abbrev pub cosine_18 : List ℕ
cosine_18 = 1 * 2 ∷ 3 * 4 ∷ 5 * 6 ∷ 7 * 8 ∷ 9 * 10 ∷ 11 * 12 ∷ 13 * 14 ∷ 15 * 16 ∷ 17 * 18 ∷ []

-- s is at least, or at most, num / den less or more one
abbrev pub NestedAtLeast : ℤ → ℕ → ℤ → Type 0
NestedAtLeast num den s = num ≤ℤ ((s +ℤ pos 1) *ℤ pos den)

abbrev pub NestedAtMost : ℤ → ℕ → ℤ → Type 0
NestedAtMost num den s = ((s -ℤ pos 1) *ℤ pos den) ≤ℤ num

-- s lies between the two sums, one unit more on each side
pub record NestedBetween (n m : ℤ) (d e : ℕ) (s : ℤ) : Type 0 where
  pub low : NestedAtLeast n d s ⊎ NestedAtLeast m e s
  pub high : NestedAtMost n d s ⊎ NestedAtMost m e s

unfoldable pub NestedSine : ℤ → ℤ → Type 0
NestedSine r s = NestedBetween (r *ℤ nested_num (nat_abs r * nat_abs r) sine_15) (r
    *ℤ nested_num (nat_abs r * nat_abs r) sine_17) (nested_den sine_15) (nested_den sine_17) s

unfoldable pub NestedCosine : ℤ → ℤ → Type 0
NestedCosine r s = NestedBetween (pos unit *ℤ nested_num (nat_abs r * nat_abs r) cosine_16)
    (pos unit *ℤ nested_num (nat_abs r * nat_abs r) cosine_18) (nested_den cosine_16)
    (nested_den cosine_18) s

-- lo and hi, in fine units, hold num / den
pub record Holds (lo hi num den : ℕ) : Type 0 where
  pub low : lo * den ≤ fine * num
  pub high : fine * num ≤ hi * den

-- lo and hi, in fine units, hold square / unit^2
pub record HoldsSquare (lo hi square : ℕ) : Type 0 where
  pub low : lo * 10 ^ 14 ≤ square
  pub high : square ≤ hi * 10 ^ 14
