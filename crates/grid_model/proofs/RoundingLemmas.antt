-- Fractions rounded down, and the ends that hold every number near a fraction.
use Rattle.std.proofs.Common.{◌≡◌, ℕ, ◌<◌, arith, sym}
use Rattle.std.specs.Prelude.{ℤ, pos, negsuc, ◌+ℤ◌, ◌-ℤ◌, ◌*ℤ◌, neg_ℤ, ◌≤ℤ◌, ◌<ℤ◌}
use Rattle.std.specs.Int.{int_div_euclid}
use Rattle.std.proofs.lemmas.Int.{ints, by_lt_z}
use Rattle.std.proofs.Math.Nat.{div-add-mod', mod-lt, div-le_self}
use Rattle.grid_model.specs.Sizes.{IsWithin}
use Rattle.grid_model.specs.Intervals.{Between}
use Rattle.grid_model.specs.Rounding.{Near, IsFloor, IsTightRound, grain_floor, grain_ceil, IsMultipleOf}
use Rattle.grid_model.proofs.ProductLemmas.{mul_mono, mul_anti, add_mul, neg_mul, mul_lt_back}
use lib.IntN.{*ℤ_comm}

positive : (d : ℕ) → pos 0 <ℤ pos d → 0 < d
positive d h = omega (arith, ints)

pub floor_is : (a d : ℤ) → pos 0 <ℤ d → IsFloor a d (int_div_euclid a d)
floor_is (pos a) (pos d) h = record { le = omega (arith, ints, div-add-mod' a d); gt = omega (arith, ints, div-add-mod' a d, mod-lt a (positive d h)) }
floor_is (negsuc a) (pos d) h = record { le = omega (arith, ints, div-add-mod' a d, mod-lt a (positive d h)); gt = omega (arith, ints, div-add-mod' a d) }
floor_is a (negsuc d) h = absurd (omega (arith, ints))

-- a fraction is rounded down to one number alone
pub floor_only : (n d q r : ℤ) → pos 0 <ℤ d → IsFloor n d q → IsFloor n d r → q ≡ r
floor_only n d q r p f g =
    let a : q <ℤ (r +ℤ pos 1) = below n d q r p f g in
    let b : r <ℤ (q +ℤ pos 1) = below n d r q p g f in
    omega (arith, ints)
  where
    below : (n d v w : ℤ) → pos 0 <ℤ d → IsFloor n d v → IsFloor n d w → v <ℤ (w +ℤ pos 1)
    below n d v w p f g = mul_lt_back v (w +ℤ pos 1) d p (omega (arith, ints, f.le, g.gt, add_mul w (pos 1) d))

-- it is no larger in amount than the numerator
pub floor_within : (k : ℕ) (n d : ℤ) → pos 0 <ℤ d → IsWithin k n → IsWithin k (int_div_euclid n d)
floor_within k (pos n) (pos d) p h = record { low = omega (arith, ints); high = omega (arith, ints, div-le_self n d) }
floor_within k (negsuc n) (pos d) p h = record { low = omega (arith, ints, div-le_self n d); high = omega (arith, ints) }
floor_within k n (negsuc d) p h = absurd (omega (arith, ints))

pub floor_near : (n d q : ℤ) → pos 0 <ℤ d → IsFloor n d q → Near n d q
floor_near n d q p f = record { below = omega (arith, ints, f.le, f.gt); above = omega (arith, ints, f.le, f.gt) }

pub grain_between : (g x : ℤ) → pos 1 ≤ℤ g → (grain_floor g x ≤ℤ x) × (x ≤ℤ grain_ceil g x)
grain_between g x h =
    let p : IsFloor x g (int_div_euclid x g) = floor_is x g (omega (arith, ints)) in
    let q : IsFloor (neg_ℤ x) g (int_div_euclid (neg_ℤ x) g) = floor_is (neg_ℤ x) g (omega (arith, ints)) in
    (p.le, omega (arith, ints, q.le))

pub grain_floor_one : (x : ℤ) → grain_floor (pos 1) x ≡ x
grain_floor_one (pos n) = omega (arith, ints)
grain_floor_one (negsuc n) = omega (arith, ints)

pub multiple_of_one : (v : ℤ) → IsMultipleOf (pos 1) v
multiple_of_one v = record { times = int_div_euclid v (pos 1); is = sym (grain_floor_one v) }

pub grain_ceil_one : (x : ℤ) → grain_ceil (pos 1) x ≡ x
grain_ceil_one x = omega (arith, ints, grain_floor_one (neg_ℤ x))

-- ---- one less than the quotient q is at most each number near n / d or above

pub low_end_holds : (n d q r v : ℤ) → pos 0 <ℤ d → IsFloor n d q → r ≡ q -ℤ pos 1
    → n ≤ℤ (v *ℤ d +ℤ d) → r ≤ℤ v
low_end_holds n d q r v p f g h =
    let k : q <ℤ (v +ℤ pos 2) = mul_lt_back q (v +ℤ pos 2) d p (omega (arith, ints, add_mul v (pos 2) d)) in
    omega (arith, ints)

pub low_end_tight : (n d q r : ℤ) → IsFloor n d q → r ≡ q -ℤ pos 1 → n ≤ℤ ((r +ℤ pos 2) *ℤ d)
low_end_tight n d q r f g =
    let k : r +ℤ pos 2 ≡ q +ℤ pos 1 = omega (arith, ints) in
    rw k (omega (arith, ints, add_mul q (pos 1) d))

-- ---- and one more is at least each number near n / d or below

pub high_end_holds : (n d q r v : ℤ) → pos 0 <ℤ d → IsFloor n d q → r ≡ q +ℤ pos 1
    → (v *ℤ d) ≤ℤ (n +ℤ d) → v ≤ℤ r
high_end_holds n d q r v p f g h =
    let k : v <ℤ (q +ℤ pos 2) = mul_lt_back v (q +ℤ pos 2) d p (omega (arith, ints, add_mul q (pos 2) d)) in
    omega (arith, ints)

pub high_end_tight : (n d q r : ℤ) → pos 0 <ℤ d → IsFloor n d q → r ≡ q +ℤ pos 1
    → ((r -ℤ pos 2) *ℤ d) ≤ℤ n
high_end_tight n d q r p f g =
    let k : r -ℤ pos 2 ≡ q +ℤ neg_ℤ (pos 1) = omega (arith, ints) in
    rw k (omega (arith, ints, add_mul q (neg_ℤ (pos 1)) d))

-- ---- a quotient by a divisor from lo to hi is least by lo if it is negative, and else by hi

one_more : (v d : ℤ) → (v +ℤ pos 1) *ℤ d ≡ (v *ℤ d) +ℤ d
one_more v d = omega (arith, ints, add_mul v (pos 1) d)

-- for n that is not positive, what is above n / d is above n / e for a smaller e
negative_above : (n v d e : ℤ) → n ≤ℤ pos 0 → pos 0 <ℤ e → e ≤ℤ d → n ≤ℤ (v *ℤ d) → n ≤ℤ (v *ℤ e)
negative_above n v d e s p h k = by_lt_z v (pos 0)
    (λ m. let x : (v *ℤ d) ≤ℤ (v *ℤ e) = rw (*ℤ_comm v d, *ℤ_comm v e) (mul_anti e d v h (omega (arith, ints))) in omega (arith, ints))
    (λ m. let x : (pos 0 *ℤ e) ≤ℤ (v *ℤ e) = mul_mono (pos 0) v e m (omega (arith, ints)) in omega (arith, ints))

-- for n that is not negative, it is above n / e for a greater e
natural_above : (n v d e : ℤ) → pos 0 ≤ℤ n → pos 0 <ℤ d → d ≤ℤ e → n ≤ℤ (v *ℤ d) → n ≤ℤ (v *ℤ e)
natural_above n v d e s p h k = by_lt_z v (pos 0)
    (λ m. absurd (let x : (v *ℤ d) ≤ℤ (neg_ℤ (pos 1) *ℤ d) = mul_mono v (neg_ℤ (pos 1)) d (omega (arith, ints)) (omega (arith, ints)) in omega (arith, ints)))
    (λ m. let x : (v *ℤ d) ≤ℤ (v *ℤ e) = rw (*ℤ_comm v d, *ℤ_comm v e) (mul_mono d e v h m) in omega (arith, ints))

pub negative_low : (n lo hi d v : ℤ) → n ≤ℤ pos 0 → pos 0 <ℤ lo → Between lo hi d
    → n ≤ℤ (v *ℤ d +ℤ d) → n ≤ℤ (v *ℤ lo +ℤ lo)
negative_low n lo hi d v s p b h =
    let k : n ≤ℤ ((v +ℤ pos 1) *ℤ lo) = negative_above n (v +ℤ pos 1) d lo s p b.from (omega (arith, ints, one_more v d)) in
    omega (arith, ints, one_more v lo)

pub natural_low : (n lo hi d v : ℤ) → pos 0 ≤ℤ n → pos 0 <ℤ lo → Between lo hi d
    → n ≤ℤ (v *ℤ d +ℤ d) → n ≤ℤ (v *ℤ hi +ℤ hi)
natural_low n lo hi d v s p b h =
    let k : n ≤ℤ ((v +ℤ pos 1) *ℤ hi) = natural_above n (v +ℤ pos 1) d hi s (omega (arith, ints, b.from)) b.to (omega (arith, ints, one_more v d)) in
    omega (arith, ints, one_more v hi)

turned_round : (v d : ℤ) → (pos 1 -ℤ v) *ℤ d ≡ d -ℤ (v *ℤ d)
turned_round v d = omega (arith, ints, add_mul (pos 1) (neg_ℤ v) d, neg_mul v d)

pub negative_high : (n lo hi d v : ℤ) → n ≤ℤ pos 0 → pos 0 <ℤ lo → Between lo hi d
    → (v *ℤ d) ≤ℤ (n +ℤ d) → (v *ℤ hi) ≤ℤ (n +ℤ hi)
negative_high n lo hi d v s p b h =
    let k : neg_ℤ n ≤ℤ ((pos 1 -ℤ v) *ℤ hi) = natural_above (neg_ℤ n) (pos 1 -ℤ v) d hi (omega (arith, ints)) (omega (arith, ints, b.from)) b.to (omega (arith, ints, turned_round v d)) in
    omega (arith, ints, turned_round v hi)

pub natural_high : (n lo hi d v : ℤ) → pos 0 ≤ℤ n → pos 0 <ℤ lo → Between lo hi d
    → (v *ℤ d) ≤ℤ (n +ℤ d) → (v *ℤ lo) ≤ℤ (n +ℤ lo)
natural_high n lo hi d v s p b h =
    let k : neg_ℤ n ≤ℤ ((pos 1 -ℤ v) *ℤ lo) = negative_above (neg_ℤ n) (pos 1 -ℤ v) d lo (omega (arith, ints)) p b.from (omega (arith, ints, turned_round v d)) in
    omega (arith, ints, turned_round v lo)

-- ---- how wide a tight round is

wide_by : (x n m h l d : ℤ) → x ≡ (h *ℤ d) -ℤ (l *ℤ d) → n ≤ℤ ((l *ℤ d) +ℤ (pos 2 *ℤ d))
    → (h *ℤ d) ≤ℤ (m +ℤ (pos 2 *ℤ d)) → x ≤ℤ ((m -ℤ n) +ℤ (pos 4 *ℤ d))
wide_by x n m h l d e f g = omega (arith, ints)

pub tight_width : (n m d l h : ℤ) → IsTightRound n d m d l h
    → ((h -ℤ l) *ℤ d) ≤ℤ ((m -ℤ n) +ℤ (pos 4 *ℤ d))
tight_width n m d l h t =
    wide_by ((h -ℤ l) *ℤ d) n m h l d (omega (arith, ints, add_mul h (neg_ℤ l) d, neg_mul l d))
    (omega (arith, ints, t.low, add_mul l (pos 2) d)) (omega (arith, ints, t.high, add_mul h (neg_ℤ (pos 2)) d))
