-- Ends in, ends out: amounts and widths through the sums, products and quotients of a chain. A line
-- of a chain is held by its call, and its ends are bounded by the lemma of that call.
use Rattle.std.proofs.Common.{◌≡◌, ℕ, ◌+◌, ◌*◌, ◌≤◌, arith, ap, ◌∙◌, subst}
use Rattle.std.specs.Prelude.{ℤ, pos, ◌+ℤ◌, ◌-ℤ◌, ◌*ℤ◌, neg_ℤ, ◌≤ℤ◌, ◌<ℤ◌}
use Rattle.std.proofs.lemmas.Int.{ints}
use lib.IntN.{*ℤ_comm}
use Rattle.grid_model.specs.Sizes.{IsWithin}
use Rattle.grid_model.specs.Intervals.{Ends}
use Rattle.grid_model.specs.Rounding.{IsTightRound, IsTightQuotient}
use Rattle.grid_model.specs.Products.{least_product, greatest_product}
use Rattle.grid_model.proofs.ProductLemmas.{mul_mono, mul_le_back, add_mul, neg_mul, mul_assoc, product_within, products_apart}
use Rattle.grid_model.proofs.IntervalLemmas.{member_within, members_within}
use Rattle.grid_model.proofs.SpreadLemmas.{least_has, greatest_has, products_within, products_spread}

pub sum_ends : (m v n w : ℕ) (a b c d : ℤ) → Ends m v a b → Ends n w c d
    → Ends (m + n) (v + w) (a +ℤ c) (b +ℤ d)
sum_ends m v n w a b c d e f = record { order = omega (arith, ints); low = record { low = omega (arith, ints); high = omega (arith, ints) }; high = record { low = omega (arith, ints); high = omega (arith, ints) }; width = omega (arith, ints) }

pub difference_ends : (m v n w : ℕ) (a b c d : ℤ) → Ends m v a b → Ends n w c d
    → Ends (m + n) (v + w) (a -ℤ d) (b -ℤ c)
difference_ends m v n w a b c d e f = record { order = omega (arith, ints); low = record { low = omega (arith, ints); high = omega (arith, ints) }; high = record { low = omega (arith, ints); high = omega (arith, ints) }; width = omega (arith, ints) }

pub wider_ends : (m n v w : ℕ) (a b : ℤ) → m ≤ n → v ≤ w → Ends m v a b → Ends n w a b
wider_ends m n v w a b h k e = record { order = e.order; low = record { low = omega (arith, ints); high = omega (arith, ints) }; high = record { low = omega (arith, ints); high = omega (arith, ints) }; width = omega (arith, ints) }

-- ---- a rounded fraction

below_end : (n l d : ℤ) (k : ℕ) → pos 0 <ℤ d → neg_ℤ (pos k *ℤ d) ≤ℤ n → n ≤ℤ ((l +ℤ pos 2) *ℤ d)
    → neg_ℤ (pos (k + 2)) ≤ℤ l
below_end n l d k p h t =
    let x : neg_ℤ (pos k) ≤ℤ (l +ℤ pos 2) = mul_le_back (neg_ℤ (pos k)) (l +ℤ pos 2) d p (rw (neg_mul (pos k) d) (omega (arith, ints))) in
    omega (arith, ints)

above_end : (m h d : ℤ) (k : ℕ) → pos 0 <ℤ d → m ≤ℤ (pos k *ℤ d) → ((h -ℤ pos 2) *ℤ d) ≤ℤ m
    → h ≤ℤ pos (k + 2)
above_end m h d k p i t =
    let x : (h -ℤ pos 2) ≤ℤ pos k = mul_le_back (h -ℤ pos 2) (pos k) d p (omega (arith, ints)) in
    omega (arith, ints)

width_end : (n m l h d : ℤ) (j : ℕ) → pos 0 <ℤ d → m ≤ℤ (n +ℤ (pos j *ℤ d))
    → n ≤ℤ ((l +ℤ pos 2) *ℤ d) → ((h -ℤ pos 2) *ℤ d) ≤ℤ m → (h -ℤ l) ≤ℤ pos (j + 4)
width_end n m l h d j p i t u =
    let x : (h -ℤ pos 2) ≤ℤ ((l +ℤ pos 2) +ℤ pos j) = mul_le_back (h -ℤ pos 2) ((l +ℤ pos 2) +ℤ pos j) d p (rw (add_mul (l +ℤ pos 2) (pos j) d) (omega (arith, ints))) in
    omega (arith, ints)

ends_from : (k j : ℕ) (l h : ℤ) → l ≤ℤ h → neg_ℤ (pos (k + 2)) ≤ℤ l → h ≤ℤ pos (k + 2)
    → (h -ℤ l) ≤ℤ pos (j + 4) → Ends (k + 2) (j + 4) l h
ends_from k j l h o f g w = record { order = o; low = record { low = f; high = omega (arith, ints) }; high = record { low = omega (arith, ints); high = g }; width = w }

-- numerators from n to m of amount at most k denominators, and at most j denominators apart
pub rounded_ends : (k j : ℕ) (n m d l h : ℤ) → pos 0 <ℤ d → l ≤ℤ h → neg_ℤ (pos k *ℤ d) ≤ℤ n
    → m ≤ℤ (pos k *ℤ d) → m ≤ℤ (n +ℤ (pos j *ℤ d)) → IsTightRound n d m d l h
    → Ends (k + 2) (j + 4) l h
rounded_ends k j n m d l h p o f g i t = ends_from k j l h o (below_end n l d k p f t.low) (above_end m h d k p g t.high) (width_end n m l h d j p i t.low t.high)

rounded_by : (k j : ℕ) (n m d l h : ℤ) (x y : ℕ) → pos 0 <ℤ d → l ≤ℤ h → pos x ≤ℤ (pos k *ℤ d)
    → pos y ≤ℤ (pos j *ℤ d) → IsWithin x n → IsWithin x m → m ≤ℤ (n +ℤ pos y)
    → IsTightRound n d m d l h → Ends (k + 2) (j + 4) l h
rounded_by k j n m d l h x y p o f g u v s t = rounded_ends k j n m d l h p o (omega (arith, ints, u.low)) (omega (arith, ints, v.high)) (omega (arith, ints)) t

-- ---- a product

-- `times_over` of members of amounts m and n and widths v and w, by den: the products are at most k
-- and their spread at most j denominators
pub product_ends : (m v n w k j : ℕ) (a b c d den l h : ℤ) → Ends m v a b → Ends n w c d
    → pos 0 <ℤ den → pos (m * n) ≤ℤ (pos k *ℤ den) → pos (m * w + n * v) ≤ℤ (pos j *ℤ den) → l ≤ℤ h
    → IsTightRound (least_product a b c d) den (greatest_product a b c d) den l h
    → Ends (k + 2) (j + 4) l h
product_ends m v n w k j a b c d den l h e f p x y o t =
    let q = products_within m v n w a b c d e f in
    let u : IsWithin (m * n) (least_product a b c d) = least_has (λ (z : ℤ). IsWithin (m * n) z) a b c d q.low_low q.low_high q.high_low q.high_high in
    let g : IsWithin (m * n) (greatest_product a b c d) = greatest_has (λ (z : ℤ). IsWithin (m * n) z) a b c d q.low_low q.low_high q.high_low q.high_high in
    rounded_by k j (least_product a b c d) (greatest_product a b c d) den l h (m * n) (m * w + n * v) p o x y u g (products_spread m v n w a b c d e f) t

-- ---- a quotient

-- k times the least divisor is at most k times a divisor
least_divisor : (k s : ℕ) (b : ℤ) → pos s ≤ℤ b → pos (k * s) ≤ℤ (pos k *ℤ b)
least_divisor k s b h = let x : (pos s *ℤ pos k) ≤ℤ (b *ℤ pos k) = mul_mono (pos s) b (pos k) h (omega (arith, ints)) in rw (*ℤ_comm (pos k) b) (omega (arith, ints))

square_divisor : (s : ℕ) (b b' : ℤ) → pos s ≤ℤ b → pos s ≤ℤ b' → pos (s * s) ≤ℤ (b *ℤ b')
square_divisor s b b' h k =
    let x : (pos s *ℤ b') ≤ℤ (b *ℤ b') = mul_mono (pos s) b b' h (omega (arith, ints)) in
    let y : pos (s * s) ≤ℤ (pos s *ℤ b') = least_divisor s s b' k in
    omega (arith, ints)

pub low_of : (x : ℕ) (n z : ℤ) → IsWithin x n → pos x ≤ℤ z → neg_ℤ z ≤ℤ n
low_of x n z w h = omega (arith, ints)

pub high_of : (x : ℕ) (n z : ℤ) → IsWithin x n → pos x ≤ℤ z → n ≤ℤ z
high_of x n z w h = omega (arith, ints)

le_pos : (a b : ℕ) (z : ℤ) → a ≤ b → pos b ≤ℤ z → pos a ≤ℤ z
le_pos a b z h k = omega (arith, ints)

-- x b1 b0 and y b0 b1 have the divisors' product as a common factor
pub common : (x b b' : ℤ) → (x *ℤ b') *ℤ b ≡ x *ℤ (b *ℤ b')
common x b b' = mul_assoc x b' b ∙ ap (λ (z : ℤ). x *ℤ z) (*ℤ_comm b' b)

multiples_apart : (v p : ℕ) (a a' num : ℤ) → IsWithin v (a' -ℤ a) → IsWithin p num
    → IsWithin (v * p) ((a' *ℤ num) -ℤ (a *ℤ num))
multiples_apart v p a a' num f g =
    let e : (a' -ℤ a) *ℤ num ≡ (a' *ℤ num) -ℤ (a *ℤ num) = add_mul a' (neg_ℤ a) num ∙ ap (λ (z : ℤ). (a' *ℤ num) +ℤ z) (neg_mul a num) in
    subst (λ (z : ℤ). IsWithin (v * p) z) e (product_within v p (a' -ℤ a) num f g)

positive_product : (b b' : ℤ) → pos 0 <ℤ b → pos 0 <ℤ b' → pos 0 <ℤ (b *ℤ b')
positive_product b b' p q = let x : (pos 1 *ℤ b') ≤ℤ (b *ℤ b') = mul_mono (pos 1) b b' (omega (arith, ints)) (omega (arith, ints)) in omega (arith, ints)

join_width : (x y j u v q r e : ℤ) → x ≤ℤ u → u ≤ℤ (v +ℤ e) → v ≤ℤ y → e ≤ℤ j → x ≡ q → y ≡ r
    → q ≤ℤ (r +ℤ j)
join_width x y j u v q r e f g h k s t = omega (arith, ints)

quotient_width : (m v n w j p s : ℕ) (num a a' b b' l h : ℤ) → IsWithin m a' → IsWithin n b'
    → IsWithin v (a' -ℤ a) → IsWithin w (b -ℤ b') → IsWithin p num → pos 0 <ℤ b → pos 0 <ℤ b'
    → pos s ≤ℤ b → pos s ≤ℤ b' →
    m * p * w + n * (v * p) ≤ j * (s * s) → IsTightRound (a *ℤ num) b (a' *ℤ num) b' l h → (h -ℤ l) ≤ℤ pos (j + 4)
quotient_width m v n w j p s num a a' b b' l h f g i k o q q' r r' c t =
    let x = h -ℤ pos 2 in
    let y = l +ℤ pos 2 in
    let ta : ((a' *ℤ num) *ℤ b) ≤ℤ (((a *ℤ num) *ℤ b') +ℤ pos (m * p * w + n * (v * p))) = products_apart (a' *ℤ num) (a *ℤ num) b b' (m * p) n (v * p) w (product_within m p a' num f o) g (multiples_apart v p a a' num i o) k in
    let tb : ((x *ℤ b') *ℤ b) ≤ℤ ((a' *ℤ num) *ℤ b) = mul_mono (x *ℤ b') (a' *ℤ num) b t.high (omega (arith, ints)) in
    let tc : ((a *ℤ num) *ℤ b') ≤ℤ ((y *ℤ b) *ℤ b') = mul_mono (a *ℤ num) (y *ℤ b) b' t.low (omega (arith, ints)) in
    let ss : pos (s * s) ≤ℤ (b *ℤ b') = square_divisor s b b' r r' in
    let td : pos (m * p * w + n * (v * p)) ≤ℤ (pos j *ℤ (b *ℤ b')) = le_pos (m * p * w + n * (v * p)) (j * (s * s)) (pos j *ℤ (b *ℤ b')) c (least_divisor j (s * s) (b *ℤ b') ss) in
    let z : (x *ℤ (b *ℤ b')) ≤ℤ ((y *ℤ (b *ℤ b')) +ℤ (pos j *ℤ (b *ℤ b'))) = join_width ((x *ℤ b') *ℤ b) ((y *ℤ b) *ℤ b') (pos j *ℤ (b *ℤ b')) ((a' *ℤ num) *ℤ b) ((a *ℤ num) *ℤ b') (x *ℤ (b *ℤ b')) (y *ℤ (b *ℤ b')) (pos (m * p * w + n * (v * p))) tb ta tc td (common x b b') (mul_assoc y b b') in
    let e : x ≤ℤ (y +ℤ pos j) = mul_le_back x (y +ℤ pos j) (b *ℤ b') (positive_product b b' q q') (rw (add_mul y (pos j) (b *ℤ b')) z) in
    omega (arith, ints)

-- `over` of members of amount m and width v, times a number of amount p, by divisors of amount n
-- and width w that are at least s
pub quotient_ends : (m v n w k j p s : ℕ) (num a b c d l h : ℤ) → Ends m v a b → Ends n w c d
    → IsWithin p num → pos 0 <ℤ c → pos s ≤ℤ c → m * p ≤ k * s
    → m * p * w + n * (v * p) ≤ j * (s * s) → l ≤ℤ h → IsTightQuotient a b c d num l h
    → Ends (k + 2) (j + 4) l h
quotient_ends m v n w k j p s num a b c d l h e f g q r u i o z =
    let x = z.low_num in
    let y = z.low_den in
    let x' = z.high_num in
    let y' = z.high_den in
    let t = z.tight in
    let X = z.low_num_is in
    let Y = z.low_den_is in
    let X' = z.high_num_is in
    let Y' = z.high_den_is in
    let py : pos 0 <ℤ y = let g = Y.from in omega (arith, ints) in
    let py' : pos 0 <ℤ y' = let g = Y'.from in omega (arith, ints) in
    let sy : pos s ≤ℤ y = let g = Y.from in omega (arith, ints) in
    let sy' : pos s ≤ℤ y' = let g = Y'.from in omega (arith, ints) in
    let low = low_of (m * p) (x *ℤ num) (pos k *ℤ y) (product_within m p x num (member_within m v a b x e X) g) (le_pos (m * p) (k * s) (pos k *ℤ y) u (least_divisor k s y sy)) in
    let high = high_of (m * p) (x' *ℤ num) (pos k *ℤ y') (product_within m p x' num (member_within m v a b x' e X') g) (le_pos (m * p) (k * s) (pos k *ℤ y') u (least_divisor k s y' sy')) in
    ends_from k j l h o (below_end (x *ℤ num) l y k py low t.low) (above_end (x' *ℤ num) h y' k py' high t.high)
    (quotient_width m v n w j p s num x x' y y' l h (member_within m v a b x' e X') (member_within n w c d y' f Y') (members_within m v a b x' x e X' X) (members_within n w c d y y' f Y Y') g py py' sy sy' i t)
