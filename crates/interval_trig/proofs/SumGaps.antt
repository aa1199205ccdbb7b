-- Two successive sums are close, so each value is close to the lower sum rounded down.
use Rattle.std.proofs.Common.{◌≡◌, ℕ, ◌+◌, ◌-◌, ◌*◌, ◌^◌, ◌/◌, ◌≤◌, ◌<◌, ◌++◌, arith, sym, refl, ap, subst, lit≤, List, [], ◌∷◌, ⊎_elim, ◌⊎◌, inl, inr}
use Rattle.std.specs.Prelude.{ℤ, pos, ◌-ℤ◌, ◌+ℤ◌, ◌*ℤ◌, ◌≤ℤ◌, ◌<ℤ◌}
use Rattle.std.proofs.lemmas.Int.{ints}
use Rattle.std.proofs.lemmas.Nat.{mul-le, div-add-mod'}
use Rattle.std.proofs.Math.Nat.{mul-lt-mul_of_pos_left, mod-lt, mul-le-mul_right, mul-le-mul_left, le_trans}
use Rattle.grid_model.proofs.ProductLemmas.{mul_lt_back, add_mul, mul_le_back}
use Rattle.grid_model.specs.Angles.{unit}
use Rattle.grid_model.specs.Intervals.{Close}
use Rattle.grid_model.specs.Taylor.{SineAt, CosineAt}
use Rattle.interval_trig.specs.NestedSums.{greatest_rest, NestedSine, NestedCosine, plain_num, nested_num, nested_den, sine_15, sine_17, cosine_16, cosine_18, NestedBetween, NestedAtLeast, NestedAtMost}
use Rattle.interval_trig.proofs.HornerSteps.{below_quotient, plain_le_den, AllPositive, small_step, nested_is_plain}
use Rattle.interval_trig.proofs.PointValues.{square_small}
use Rattle.interval_trig.proofs.NestedSums.{sine_in, cosine_in}
use Rattle.interval_trig.proofs.WholeSums.{sine_whole, cosine_whole}

-- f over e, and the next sum g over m e, are at most w over m e apart
record Apart (m f g w : ℕ) : Type 0 where
  below : g ≤ m * f + w
  above : m * f ≤ g + w

apart_step : (n m y f g e w : ℕ) → y * f ≤ n * e → y * g ≤ n * (m * e) → Apart m f g w
    → Apart m (n * e - y * f) (n * (m * e) - y * g) (y * w)
apart_step n m y f g e w h k p =
    let a : y * g ≤ y * (m * f + w) = mul-le-mul_left y p.below in
    let b : y * (m * f) ≤ y * (g + w) = mul-le-mul_left y p.above in
    let c : (n * e - y * f) + y * f ≡ n * e = omega arith in
    let d = ap (λ (x : ℕ). m * x) c in
    record { below = omega (arith, d); above = omega (arith, d) }

-- what the term after the last adds, times the denominators
abbrev pub last_term : ℕ → List ℕ → ℕ
last_term y [] = y
last_term y (d ∷ ds) = y * last_term y ds

longer_den : (c : ℕ) (ds : List ℕ) → nested_den (ds ++ (c ∷ [])) ≡ (c * unit ^ 2) * nested_den ds
longer_den c [] = refl
longer_den c (d ∷ ds) = let h = longer_den c ds in let k = ap (λ (n : ℕ). d * unit ^ 2 * n) h in omega (arith, k)

first_apart : (m y : ℕ) → y ≤ m → Apart m 1 (m * 1 - y * 1) y
first_apart m y h = record { below = omega arith; above = omega arith }

apart_all : (y c : ℕ) (ds : List ℕ) → y ≤ unit ^ 2 → 1 ≤ c → AllPositive ds
    → AllPositive (ds ++ (c ∷ []))
    → Apart (c * unit ^ 2) (plain_num y ds) (plain_num y (ds ++ (c ∷ []))) (last_term y ds)
apart_all y c [] h k p q = first_apart (c * unit ^ 2) y (le_trans h (mul-le-mul_right (unit ^ 2) k))
apart_all y c (d ∷ ds) h k p q =
    let e = longer_den c ds in
    let a : y * plain_num y ds ≤ d * unit ^ 2 * nested_den ds = small_step (unit ^ 2) y (plain_num y ds) (nested_den ds) d h (plain_le_den y ds) p.0 in
    let b : y * plain_num y (ds ++ (c ∷ [])) ≤ d * unit ^ 2 * ((c * unit ^ 2) * nested_den ds) = subst (λ (n : ℕ). y * plain_num y (ds ++ (c ∷ [])) ≤ d * unit ^ 2 * n) e (small_step (unit ^ 2) y (plain_num y (ds ++ (c ∷ []))) (nested_den (ds ++ (c ∷ []))) d h (plain_le_den y (ds ++ (c ∷ []))) p.0) in
    subst (λ (n : ℕ). Apart (c * unit ^ 2) (d * unit ^ 2 * nested_den ds - y * plain_num y ds) (d * unit ^ 2 * n - y * plain_num y (ds ++ (c ∷ []))) (y * last_term y ds)) (sym e)
    (apart_step (d * unit ^ 2) (c * unit ^ 2) y (plain_num y ds) (plain_num y (ds ++ (c ∷ []))) (nested_den ds) (last_term y ds) a b (apart_all y c ds h k p.1 q.1))

last_term_rises : (y z : ℕ) (ds : List ℕ) → y ≤ z → last_term y ds ≤ last_term z ds
last_term_rises y z [] h = h
last_term_rises y z (d ∷ ds) h = mul-le y (last_term y ds) z (last_term z ds) h (last_term_rises y z ds h)

-- one end of a value, from one sum
least_near : (q n d k : ℕ) (z : ℤ) → 0 < d → q * d ≤ n + k * d → pos n ≤ℤ (z *ℤ pos d)
    → pos q ≤ℤ (z +ℤ pos k)
least_near q n d k z p h l = mul_le_back (pos q) (z +ℤ pos k) (pos d) (omega (arith, ints)) (omega (arith, ints, add_mul z (pos k) (pos d)))

most_near : (q n d k : ℕ) (z : ℤ) → 0 < d → n < (q + k) * d → (z *ℤ pos d) ≤ℤ pos n
    → z <ℤ pos (q + k)
most_near q n d k z p h l = mul_lt_back z (pos (q + k)) (pos d) (omega (arith, ints)) (omega (arith, ints))

ends_near : (q : ℕ) (s : ℤ)
    → ((pos q ≤ℤ ((s +ℤ pos 1) +ℤ pos 0)) ⊎ (pos q ≤ℤ ((s +ℤ pos 1) +ℤ pos 1)))
    → (((s -ℤ pos 1) <ℤ pos (q + 1)) ⊎ ((s -ℤ pos 1) <ℤ pos (q + 2))) → Close 2 s (pos q)
ends_near q s h k = record { below = ⊎_elim (λ (m : (s -ℤ pos 1) <ℤ pos (q + 1)). omega (arith, ints)) (λ (m : (s -ℤ pos 1) <ℤ pos (q + 2)). omega (arith, ints)) k; above = ⊎_elim (λ (m : pos q ≤ℤ ((s +ℤ pos 1) +ℤ pos 0)). omega (arith, ints)) (λ (m : pos q ≤ℤ ((s +ℤ pos 1) +ℤ pos 1)). omega (arith, ints)) h }

-- a value between the sums f / e and g / (m e), which are at most one apart, is near f / e rounded down to q
value_near : (m f g e q : ℕ) (s : ℤ) → 0 < e → 0 < m → 0 < m * e → Apart m f g (m * e) → q * e ≤ f
    → f < (q + 1) * e → NestedBetween (pos f) (pos g) e (m * e) s → Close 2 s (pos q)
value_near m f g e q s p o p' w h k v =
    let a : m * (q * e) ≤ m * f = mul-le-mul_left m h in
    let b : m * f < m * ((q + 1) * e) = mul-lt-mul_of_pos_left k o in
    let lo : q * (m * e) ≤ g + 1 * (m * e) = let x = w.above in omega arith in
    let hi : g < (q + 2) * (m * e) = let x = w.below in omega arith in
    ends_near q s
    (⊎_elim (λ (l : NestedAtLeast (pos f) e s). inl (least_near q f e 0 (s +ℤ pos 1) p (omega arith) l)) (λ (l : NestedAtLeast (pos g) (m * e) s). inr (least_near q g (m * e) 1 (s +ℤ pos 1) p' lo l)) v.low)
    (⊎_elim (λ (l : NestedAtMost (pos f) e s). inl (most_near q f e 1 (s -ℤ pos 1) p k l)) (λ (l : NestedAtMost (pos g) (m * e) s). inr (most_near q g (m * e) 2 (s -ℤ pos 1) p' hi l)) v.high)

times_apart : (a m f g w e : ℕ) → Apart m f g w → a * w ≤ e → Apart m (a * f) (a * g) e
times_apart a m f g w e p h =
    let x : a * g ≤ a * (m * f + w) = mul-le-mul_left a p.below in
    let y : a * (m * f) ≤ a * (g + w) = mul-le-mul_left a p.above in
    record { below = omega arith; above = omega arith }

pub below_next : (n e : ℕ) → 0 < e → n < (n / e + 1) * e
below_next n e p = omega (arith, div-add-mod' n e, mod-lt n p)

rest_square : (a : ℕ) → a ≤ greatest_rest → a * a ≤ greatest_rest * greatest_rest
rest_square a h = mul-le a a greatest_rest greatest_rest h h

-- each value at a rest that is not negative is within two units of the whole sum
pub sine_near : (a : ℕ) (s : ℤ) → a ≤ greatest_rest → SineAt (pos a) s
    → Close 2 s (pos (sine_whole a))
unfolding NestedSine sine_whole
sine_near a s h v =
    let x' : NestedSine (pos a) s = sine_in (pos a) s v in
    let e : nested_num (a * a) sine_15 ≡ pos (plain_num (a * a) sine_15) = nested_is_plain (a * a) sine_15 (square_small a h) (search arith) in
    let f : nested_num (a * a) sine_17 ≡ pos (plain_num (a * a) sine_17) = nested_is_plain (a * a) sine_17 (square_small a h) (search arith) in
    let w = apart_all (a * a) (16 * 17) sine_15 (square_small a h) (lit≤ tt) (search arith) (search arith) in
    let l : a * last_term (a * a) sine_15 ≤ nested_den sine_17 = le_trans (mul-le a (last_term (a * a) sine_15) greatest_rest (last_term (greatest_rest * greatest_rest) sine_15) h (last_term_rises (a * a) (greatest_rest * greatest_rest) sine_15 (rest_square a h))) (lit≤ tt) in
    let x = times_apart a (16 * 17 * unit ^ 2) (plain_num (a * a) sine_15) (plain_num (a * a) sine_17) (last_term (a * a) sine_15) (nested_den sine_17) w l in
    value_near (16 * 17 * unit ^ 2) (a * plain_num (a * a) sine_15) (a * plain_num (a * a) sine_17) (nested_den sine_15) (sine_whole a) s (lit≤ tt) (lit≤ tt) (lit≤ tt) x
    (below_quotient (a * plain_num (a * a) sine_15) (nested_den sine_15)) (below_next (a * plain_num (a * a) sine_15) (nested_den sine_15) (lit≤ tt))
    (subst (λ (z : ℤ). NestedBetween (pos a *ℤ z) (pos a *ℤ pos (plain_num (a * a) sine_17)) (nested_den sine_15) (nested_den sine_17) s) e (subst (λ (z : ℤ). NestedBetween (pos a *ℤ nested_num (a * a) sine_15) (pos a *ℤ z) (nested_den sine_15) (nested_den sine_17) s) f x'))

pub cosine_near : (a : ℕ) (s : ℤ) → a ≤ greatest_rest → CosineAt (pos a) s
    → Close 2 s (pos (cosine_whole a))
unfolding NestedCosine cosine_whole
cosine_near a s h v =
    let x' : NestedCosine (pos a) s = cosine_in (pos a) s v in
    let e : nested_num (a * a) cosine_16 ≡ pos (plain_num (a * a) cosine_16) = nested_is_plain (a * a) cosine_16 (square_small a h) (search arith) in
    let f : nested_num (a * a) cosine_18 ≡ pos (plain_num (a * a) cosine_18) = nested_is_plain (a * a) cosine_18 (square_small a h) (search arith) in
    let w = apart_all (a * a) (17 * 18) cosine_16 (square_small a h) (lit≤ tt) (search arith) (search arith) in
    let l : unit * last_term (a * a) cosine_16 ≤ nested_den cosine_18 = le_trans (mul-le-mul_left unit (last_term_rises (a * a) (greatest_rest * greatest_rest) cosine_16 (rest_square a h))) (lit≤ tt) in
    let x = times_apart unit (17 * 18 * unit ^ 2) (plain_num (a * a) cosine_16) (plain_num (a * a) cosine_18) (last_term (a * a) cosine_16) (nested_den cosine_18) w l in
    value_near (17 * 18 * unit ^ 2) (unit * plain_num (a * a) cosine_16) (unit * plain_num (a * a) cosine_18) (nested_den cosine_16) (cosine_whole a) s (lit≤ tt) (lit≤ tt) (lit≤ tt) x
    (below_quotient (unit * plain_num (a * a) cosine_16) (nested_den cosine_16)) (below_next (unit * plain_num (a * a) cosine_16) (nested_den cosine_16) (lit≤ tt))
    (subst (λ (z : ℤ). NestedBetween (pos unit *ℤ z) (pos unit *ℤ pos (plain_num (a * a) cosine_18)) (nested_den cosine_16) (nested_den cosine_18) s) e (subst (λ (z : ℤ). NestedBetween (pos unit *ℤ nested_num (a * a) cosine_16) (pos unit *ℤ z) (nested_den cosine_16) (nested_den cosine_18) s) f x'))
