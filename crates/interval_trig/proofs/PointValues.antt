-- From the nested sums to the values at a rest.
use Rattle.std.proofs.Common.{zero, suc, inl, le_refl, ◌≡◌, ℕ, ◌+◌, ◌-◌, ◌*◌, ◌^◌, ◌/◌, ◌≤◌, ◌<◌, arith, sym, ap, subst}
use Rattle.std.specs.Prelude.{ℤ, pos, ◌-ℤ◌, ◌*ℤ◌, ◌≤ℤ◌}
use Rattle.std.proofs.lemmas.Int.{ints}
use Rattle.std.proofs.lemmas.Nat.{mul-le}
use Rattle.std.proofs.Math.Nat.{mul-le-mul_right, mul-le-mul_left, le_of_mul-le-mul_left}
use Rattle.grid_model.specs.Angles.{unit}
use Rattle.interval_trig.specs.NestedSums.{NestedAtMost, NestedBetween}
use Rattle.interval_trig.proofs.HornerSteps.{above_quotient, below_quotient}

small_by : (a b : ℕ) → a ≤ b → pos a ≤ℤ pos b
small_by a b h = omega (arith, ints)

-- q - 1 times den, whether q is 0 or not
less_one : (q : ℕ) → pos (suc q) -ℤ pos 1 ≡ pos q
less_one q = omega (arith, ints)

pub at_most_of : (q den n : ℕ) → q * den ≤ n + den → NestedAtMost (pos n) den (pos q)
at_most_of zero den n h = omega (arith, ints)
at_most_of (suc q) den n h = subst (λ (z : ℤ). (z *ℤ pos den) ≤ℤ pos n) (sym (less_one q)) (small_by (q * den) n (omega arith))

high_nat : (u a n den phi hi q : ℕ) → 0 < u → a ≤ hi → u * n ≤ phi * den → hi * phi ≤ (q + 1) * u
    → a * n ≤ (q + 1) * den
high_nat u a n den phi hi q p h k m =
    let x : (hi * phi) * den ≤ ((q + 1) * u) * den = mul-le-mul_right den m in
    let y : a * (u * n) ≤ hi * (phi * den) = mul-le a (u * n) hi (phi * den) h k in
    let z : u * (a * n) ≤ u * ((q + 1) * den) = omega arith in
    le_of_mul-le-mul_left z p

-- q is a phi / u rounded down: at most one more than a n / den
low_nat : (u a n den plo phi q : ℕ) → 0 < u → a * (phi - plo) ≤ u → plo ≤ phi → plo * den ≤ u * n
    → q * u ≤ a * phi → q * den ≤ a * n + den
low_nat u a n den plo phi q p w o h k =
    let e : phi ≡ (phi - plo) + plo = omega arith in
    let f = ap (λ (x : ℕ). a * x) e in
    let x : (q * u) * den ≤ (a * (phi - plo) + a * plo) * den = mul-le-mul_right den (omega arith) in
    let y : (a * (phi - plo)) * den ≤ u * den = mul-le-mul_right den w in
    let z : a * (plo * den) ≤ a * (u * n) = mul-le-mul_left a h in
    let t : u * (q * den) ≤ u * (a * n + den) = omega arith in
    le_of_mul-le-mul_left t p

-- the rounded product of a and a held fraction is a value between the sums
pub value_held : (u a n den plo phi e : ℕ) (m m' : ℤ) → 0 < u → a * (phi - plo) ≤ u → plo ≤ phi
    → plo * den ≤ u * n → u * n ≤ phi * den → m ≡ pos n
    → NestedBetween (pos a *ℤ m) m' den e (pos (a * phi / u))
value_held u a n den plo phi e m m' p w o h k f =
    let x : a * phi / u * den ≤ a * n + den = low_nat u a n den plo phi (a * phi / u) p w o h (below_quotient (a * phi) u) in
    let y : a * n ≤ (a * phi / u + 1) * den = high_nat u a n den phi a (a * phi / u) p (le_refl a) k (above_quotient (a * phi) u p) in
    rw f (record { low = inl (omega (arith, ints)); high = inl (at_most_of (a * phi / u) den (a * n) x) })

pub quotient_le : (a p u : ℕ) → 0 < u → p ≤ u → a * p / u ≤ a
quotient_le a p u h k =
    let x : a * p ≤ a * u = mul-le-mul_left a k in
    let y : u * (a * p / u) ≤ u * a = let z = below_quotient (a * p) u in omega arith in
    le_of_mul-le-mul_left y h

pub square_small : (a : ℕ) → a ≤ 787 * 10 ^ 13 → a * a ≤ unit ^ 2
square_small a h = mul-le a a unit unit (omega arith) (omega arith)
