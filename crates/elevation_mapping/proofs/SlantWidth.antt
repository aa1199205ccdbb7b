-- How far a mapping is spread over a spread of the sine.
use Rattle.std.proofs.Common.{◌≡◌, ℕ, ◌+◌, ◌-◌, ◌*◌, ◌/◌, ◌^◌, ◌≤◌, ◌<◌, arith, inl, inr, ap, subst, sym, refl, lit≤}
use Rattle.std.specs.Prelude.{ℤ, pos, negsuc, nat_abs, ◌+ℤ◌, ◌-ℤ◌, ◌*ℤ◌, ◌≤ℤ◌, ◌<ℤ◌}
use Rattle.std.proofs.lemmas.Bool.{cases_lt}
use Rattle.std.proofs.lemmas.Int.{ints}
use Rattle.std.proofs.lemmas.Nat.{mul-le}
use borrow.Author.Differences.{up}
use lib.IntN.{*ℤ_comm}
use Rattle.grid_model.specs.Amounts.{square}
use Rattle.grid_model.specs.Angles.{unit}
use Rattle.grid_model.specs.Intervals.{Between, Ends}
use Rattle.grid_model.specs.Roots.{IsRoot, root}
use Rattle.grid_model.specs.Rounding.{IsTightQuotient}
use Rattle.grid_model.specs.Squares.{least_end, greatest_end}
use Rattle.grid_model.proofs.RootLemmas.{root_mono, square-mono, root_is, less_of_squares as root_less}
use Rattle.grid_model.proofs.ProductLemmas.{mul_mono}
use Rattle.grid_model.proofs.SquareLemmas.{one_part, least_le_greatest_end, greatest_square_le}
use Rattle.gnss_model.specs.Layers.{layer_scale, layer_floor, layer_room}
use Rattle.gnss_model.specs.Mapping.{layer_sine, slant_of}
use Rattle.gnss_model.specs.declared.delays.Layer.{Layer}
use Rattle.gnss_model.specs.declared.delays.Layer.TheVariants.{Troposphere, Ionosphere}
use Rattle.elevation_mapping.specs.SineSizes.{sine_amount, sine_slope, least_slant, slant_amount}
use Rattle.elevation_mapping.proofs.Lengths.{root_at_least}
use Rattle.elevation_mapping.proofs.SineWidth.{cancel}
use Rattle.grid_model.proofs.SpreadRoots.{two_products}

-- ---- what the constants of the layers keep to

-- 1.001, or 1, over units twice
abbrev pub mapped_one : Layer → ℕ
mapped_one layer = unit * (layer_scale layer * 10 ^ 13)

layer_sine_whole : (a : ℕ) → layer_sine Troposphere a ≡ a
layer_sine_whole a = omega arith

root_of_more : (n a b : ℕ) → a ≤ b → root (n + square a) ≤ root (n + square b)
root_of_more n a b h = root_mono (n + square a) (n + square b) _ _ (root_is (n + square a)) (root_is (n + square b)) (omega (arith, square-mono a b h))

floor_square : (layer : Layer)
    → least_slant layer * least_slant layer + 2 * slant_amount + 1 ≤ layer_floor layer
floor_square Troposphere = lit≤ tt
floor_square Ionosphere = lit≤ tt

pub floor_most : (layer : Layer) → layer_floor layer ≤ 10 ^ 32
floor_most Troposphere = lit≤ tt
floor_most Ionosphere = lit≤ tt

slant_some : (layer : Layer) → 1 ≤ least_slant layer
slant_some Troposphere = lit≤ tt
slant_some Ionosphere = lit≤ tt

mapped_some : (layer : Layer) → 1 ≤ mapped_one layer
mapped_some Troposphere = lit≤ tt
mapped_some Ionosphere = lit≤ tt

pub layer_sine_mono : (layer : Layer) (a b : ℕ) → a ≤ b → layer_sine layer a ≤ layer_sine layer b
layer_sine_mono Troposphere a b h = omega (arith, h)
layer_sine_mono Ionosphere a b h = omega (arith, h)

pub layer_sine_le : (layer : Layer) (a : ℕ) → layer_sine layer a ≤ a
layer_sine_le Troposphere a = omega arith
layer_sine_le Ionosphere a = omega arith

pub slant_room : (n b t : ℕ) → n ≤ 10 ^ 32 → b ≤ t → square t ≤ square sine_amount
    → n + b * b ≤ 10 ^ 32 + square sine_amount
slant_room n b t f h k = omega (arith, f, square-mono b t h, k)

-- how far a part of a sine is spread, x and y being these parts of s and t
layer_sine_step : (e s t x y : ℕ) → 67281363 * y ≤ 63781363 * t → 63781363 * s < 67281363 * (x + 1)
    → 63781363 * t < 67281363 * (y + 1)
    → unit * t ≤ unit * s + (e * (t + 109 * 10 ^ 14) + 10020 * unit)
    → unit * y ≤ unit * x + (e * (y + 110 * 10 ^ 14) + 10021 * unit)
layer_sine_step e s t x y a b c h = let m = mul-le e (63781363 * t) e (67281363 * (y + 1)) (omega arith) (omega (arith, c)) in omega (arith, a, b, m, h)

whole_step : (e s t x y : ℕ) → x ≡ s → y ≡ t
    → unit * t ≤ unit * s + (e * (t + 109 * 10 ^ 14) + 10020 * unit)
    → unit * y ≤ unit * x + (e * (y + 110 * 10 ^ 14) + 10021 * unit)
whole_step e s t x y a b h = rw (a, b) (omega (arith, h))

layer_sine_spread : (layer : Layer) (e s t : ℕ)
    → unit * t ≤ unit * s + (e * (t + 109 * 10 ^ 14) + 10020 * unit)
    → unit * layer_sine layer t ≤ unit * layer_sine layer s + (e * (layer_sine layer t + 110 * 10 ^ 14) + 10021 * unit)
layer_sine_spread Troposphere e s t h = whole_step e s t (layer_sine Troposphere s) (layer_sine Troposphere t) (layer_sine_whole s) (layer_sine_whole t) h
layer_sine_spread Ionosphere e s t h = layer_sine_step e s t (layer_sine Ionosphere s) (layer_sine Ionosphere t) (omega arith) (omega arith) (omega arith) h

-- ---- it is held

pub slant_held : (layer : Layer) (lo hi a b s : ℤ)
    → a ≡ pos (root (layer_floor layer + square (layer_sine layer (least_end lo hi))))
    → b ≡ pos (root (layer_floor layer + square (layer_sine layer (greatest_end lo hi))))
    → Between lo hi s → Between a b (pos (slant_of layer s))
slant_held layer lo hi a b s e f h =
    let low : least_end lo hi ≤ nat_abs s = omega (arith, ints, h.from, h.to, one_part lo, one_part hi, one_part s) in
    let high : nat_abs s ≤ greatest_end lo hi = omega (arith, ints, h.from, h.to, one_part lo, one_part hi, one_part s) in
    let n = layer_floor layer in
    let u = root_of_more n (layer_sine layer (least_end lo hi)) (layer_sine layer (nat_abs s)) (layer_sine_mono layer (least_end lo hi) (nat_abs s) low) in
    let v = root_of_more n (layer_sine layer (nat_abs s)) (layer_sine layer (greatest_end lo hi)) (layer_sine_mono layer (nat_abs s) (greatest_end lo hi) high) in
    record { from = omega (arith, ints, e, u); to = omega (arith, ints, f, v) }

pub slant_at_least : (layer : Layer) (x : ℕ) → least_slant layer ≤ root (layer_floor layer + x)
slant_at_least layer x = root_at_least (least_slant layer) (layer_floor layer + x) (omega (arith, floor_square layer))

-- ---- two slants p and q, of sines t and s

mixed_square : (n s t : ℕ) → (n + s * t) * (n + s * t) ≤ (n + s * s) * (n + t * t)
mixed_square n s t =
    let h = mul-le n (2 * (s * t)) n (s * s + t * t) (omega arith) (two_products s t) in
    omega (arith, h)

square_less : (a b x y : ℕ) → a < x * x → b < y * y → a * b < (x * y) * (x * y)
square_less a b x y h k =
    let i = mul-le (a + 1) (b + 1) (x * x) (y * y) (omega (arith, h)) (omega (arith, k)) in
    omega (arith, i)

pub mixed_less : (n s t p q : ℕ) → n + s * s < (q + 1) * (q + 1) → n + t * t < (p + 1) * (p + 1)
    → n + s * t < (q + 1) * (p + 1)
mixed_less n s t p q h k =
    let a = mixed_square n s t in
    let b = square_less (n + s * s) (n + t * t) (q + 1) (p + 1) h k in
    root_less (n + s * t) ((q + 1) * (p + 1)) (omega (arith, a, b))

gap : (n s t p q : ℕ) → n + s * s < (q + 1) * (q + 1) → n + t * t < (p + 1) * (p + 1)
    → p * p ≤ n + t * t → q ≤ p → p * p + s * t ≤ q * p + t * t + 2 * p
gap n s t p q h k i o = let m = mixed_less n s t p q h k in omega (arith, m, i, o)

sine_square : (n l t p : ℕ) → l * l + 2 * slant_amount + 1 ≤ n → n + t * t < (p + 1) * (p + 1)
    → p ≤ slant_amount → t * t + l * l ≤ p * p
sine_square n l t p f h k = omega (arith, f, h, k)

-- the slope that is left of e, where slants are at least l
abbrev pub slant_slope : ℕ → ℕ → ℕ
slant_slope l e = (2 * l + 110 * 10 ^ 14) * e + 10025 * unit

spread_times : (e s t p q : ℕ) → unit * t ≤ unit * s + (e * (t + 110 * 10 ^ 14) + 10021 * unit)
    → p * p + s * t ≤ q * p + t * t + 2 * p
    → unit * (p * p) ≤ unit * (q * p) + (e * (t * t) + (110 * 10 ^ 14 * e + 10021 * unit) * t) + 2 * unit * p
spread_times e s t p q h g =
    let a = mul-le t (unit * t) t (unit * s + (e * (t + 110 * 10 ^ 14) + 10021 * unit)) (omega arith) h in
    omega (arith, a, g)

pub slants_spread : (l e s t p q : ℕ) → 1 ≤ p → t * t + l * l ≤ p * p → l ≤ p
    → unit * (p * p) ≤ unit * (q * p) + (e * (t * t) + (110 * 10 ^ 14 * e + 10021 * unit) * t) + 2 * unit * p
    → 2 * l * unit * p ≤ 2 * l * unit * q + slant_slope l e * p
slants_spread l e s t p q o h k g =
    let c = 110 * 10 ^ 14 * e + 10021 * unit in
    let a = mul-le e (t * t) e (p * p) (omega arith) (omega (arith, h)) in
    let a' = mul-le (2 * l) (e * (t * t)) (2 * l) (e * (p * p)) (omega arith) a in
    let w = two_products l t in
    let b = mul-le c (2 * (l * t)) c (p * p) (omega arith) (omega (arith, w, h)) in
    let d = mul-le l p p p k (omega arith) in
    let g' = mul-le (2 * l) (unit * (p * p)) (2 * l) (unit * (q * p) + (e * (t * t) + c * t) + 2 * unit * p) (omega arith) g in
    cancel (2 * l * unit * p) (2 * l * unit * q + slant_slope l e * p) p o (omega (arith, a', b, d, g'))

-- ---- 1.001, or 1, over both

step : (k l z p q : ℕ) → (l + z) * q ≤ k → k ≤ l * p → z * q * p + k * q ≤ k * p
step k l z p q h i =
    let a = mul-le ((l + z) * q) p k p h (omega arith) in
    let b = mul-le k q (l * p) q i (omega arith) in
    omega (arith, a, b)

pub quotients_spread : (n f k l z p q : ℕ) → 1 ≤ p → n ≤ q
    → 2 * n * unit * p ≤ 2 * n * unit * q + f * p → (l + z) * q ≤ k → k ≤ l * p
    → 2 * n * unit * n * z ≤ k * f
quotients_spread n f k l z p q o c g h i =
    let a = step k l z p q h i in
    let a' = mul-le (2 * n * unit) (z * q * p + k * q) (2 * n * unit) (k * p) (omega arith) a in
    let b = mul-le k (2 * n * unit * p) k (2 * n * unit * q + f * p) (omega arith) g in
    let d = cancel (2 * n * unit * (z * q)) (k * f) p o (omega (arith, a', b)) in
    let e = mul-le z n z q (omega arith) c in
    let e' = mul-le (2 * n * unit) (z * n) (2 * n * unit) (z * q) (omega arith) e in
    omega (arith, d, e')

last_width : (layer : Layer) (d z : ℕ)
    → 2 * least_slant layer * unit * least_slant layer * z ≤ mapped_one layer * slant_slope (least_slant layer) (sine_slope d)
    → z + 4 ≤ 10 ^ 11 + 10 ^ 16 * d / layer_room layer
last_width Troposphere d z h = omega (arith, h)
last_width Ionosphere d z h = omega (arith, h)

-- ---- the ends of the result

low_quotient : (l y p : ℤ) (k r : ℕ) → 1 ≤ k → pos k ≤ℤ (l *ℤ y) → y ≤ℤ p → p ≡ pos r → pos 0 <ℤ y
    → (k ≤ up l * r) × (l ≡ pos (up l))
low_quotient (pos n) y p k r o h i e j =
    let a : (y *ℤ pos n) ≤ℤ (p *ℤ pos n) = mul_mono y p (pos n) i (omega (arith, ints)) in
    (omega (arith, ints, a, h, e, *ℤ_comm (pos n) y, ap (λ (z : ℤ). z *ℤ pos n) e), refl)
low_quotient (negsuc n) y p k r o h i e j =
    let a : (negsuc n *ℤ y) ≤ℤ (pos 0 *ℤ y) = mul_mono (negsuc n) (pos 0) y (omega (arith, ints)) (omega (arith, ints)) in
    absurd (omega (arith, ints, a, h))

high_quotient : (h y q : ℤ) (k r : ℕ) → (h *ℤ y) ≤ℤ pos k → q ≤ℤ y → q ≡ pos r → up h * r ≤ k
high_quotient (pos n) y q k r i j e =
    let a : (q *ℤ pos n) ≤ℤ (y *ℤ pos n) = mul_mono q y (pos n) j (omega (arith, ints)) in
    omega (arith, ints, a, i, *ℤ_comm (pos n) y, ap (λ (z : ℤ). z *ℤ pos n) e)
high_quotient (negsuc n) y q k r i j e = omega (arith, ints)

same : (u x : ℤ) → Between u u x → x ≡ u
same u x b = omega (arith, ints, b.from, b.to)

pub slant_fits : (layer : Layer) (n p : ℕ) → IsRoot n p → n ≤ layer_floor layer + square sine_amount
    → p ≤ slant_amount
slant_fits layer n p r h = let f = floor_most layer in grind (arith, square-mono (slant_amount + 1) p, r.square_le, h, f)

ends_width : (l h : ℤ) (z t : ℕ) → (l +ℤ pos 2) ≡ pos (up (l +ℤ pos 2))
    → up (h -ℤ pos 2) ≤ up (l +ℤ pos 2) + z → z + 4 ≤ t → (h -ℤ l) ≤ℤ pos t
ends_width l h z t e i j = omega (arith, ints, e, i, j, one_part (h -ℤ pos 2), one_part h, one_part l)

restored : (l m q k : ℕ) → l + (m - l) ≡ m → m * q ≤ k → (l + (m - l)) * q ≤ k
restored l m q k e h = subst (λ (z : ℕ). z * q ≤ k) (sym e) h

no_width : (z t : ℕ) → z ≡ 0 → z + 4 ≤ 10 ^ 11 + t
no_width z t e = omega arith

root_above : (n c s q : ℕ) → c * c + 2 * slant_amount + 1 ≤ n → IsRoot (n + s * s) q → c ≤ q
root_above n c s q f r = grind (arith, square-mono (q + 1) c, r.next_square_gt, f)

-- all as natural numbers, s and t being parts of sines
natural_width : (layer : Layer) (d s t p q l m : ℕ) → IsRoot (layer_floor layer + s * s) q
    → IsRoot (layer_floor layer + t * t) p → s ≤ t → p ≤ slant_amount
    → unit * t ≤ unit * s + (sine_slope d * (t + 110 * 10 ^ 14) + 10021 * unit)
    → m * q ≤ mapped_one layer → mapped_one layer ≤ l * p
    → (m - l) + 4 ≤ 10 ^ 11 + 10 ^ 16 * d / layer_room layer
natural_width layer d s t p q l m rq rp o fp h i j =
    let n = layer_floor layer in
    let c = least_slant layer in
    let a = square-mono s t o in
    let qp = root_mono (n + s * s) (n + t * t) q p rq rp (omega (arith, a)) in
    let cq : c ≤ q = root_above n c s q (floor_square layer) rq in
    let c1 = slant_some layer in
    let g = gap n s t p q rq.next_square_gt rp.next_square_gt rp.square_le qp in
    let x = sine_square n c t p (floor_square layer) rp.next_square_gt fp in
    let y = slants_spread c (sine_slope d) s t p q (omega (arith, c1, cq, qp)) x (omega (arith, cq, qp)) (spread_times (sine_slope d) s t p q h g) in
    elim (cases_lt l m) [
      | inl less ↦ last_width layer d (m - l) (quotients_spread c (slant_slope c (sine_slope d)) (mapped_one layer) l (m - l) p q (omega (arith, c1, cq, qp)) cq y (restored l m q (mapped_one layer) (omega arith) i) j)
      | inr not_less ↦ no_width (m - l) (10 ^ 16 * d / layer_room layer) (omega arith)
    ]

pub mapped_spread : (layer : Layer) (d : ℕ) (sl sh a b l h : ℤ)
    → Ends sine_amount (2 * sine_amount) sl sh
    → greatest_end sl sh * unit ≤ least_end sl sh * unit + (sine_slope d * (greatest_end sl sh + 109 * 10 ^ 14) + 10020 * unit)
    → a ≡ pos (root (layer_floor layer + square (layer_sine layer (least_end sl sh))))
    → b ≡ pos (root (layer_floor layer + square (layer_sine layer (greatest_end sl sh))))
    → IsTightQuotient (pos unit) (pos unit) a b (pos (layer_scale layer * 10 ^ 13)) l h
    → (h -ℤ l) ≤ℤ pos (10 ^ 11 + 10 ^ 16 * d / layer_room layer)
mapped_spread layer d sl sh a b l h e n ea eb t =
    let f = layer_floor layer in
    let c = layer_scale layer * 10 ^ 13 in
    let s = layer_sine layer (least_end sl sh) in
    let g = layer_sine layer (greatest_end sl sh) in
    let q = root (f + s * s) in
    let p = root (f + g * g) in
    let rq = root_is (f + s * s) in
    let rp = root_is (f + g * g) in
    let u = t.tight in
    let x = same (pos unit) t.low_num t.low_num_is in
    let y = same (pos unit) t.high_num t.high_num_is in
    let ld = t.low_den_is in
    let hd = t.high_den_is in
    let cq = root_at_least 1 (f + s * s) (omega (arith, floor_square layer)) in
    let k : pos (mapped_one layer) ≤ℤ ((l +ℤ pos 2) *ℤ t.low_den) = subst (λ (z : ℤ). (z *ℤ pos c) ≤ℤ ((l +ℤ pos 2) *ℤ t.low_den)) x u.low in
    let m : ((h -ℤ pos 2) *ℤ t.high_den) ≤ℤ pos (mapped_one layer) = subst (λ (z : ℤ). ((h -ℤ pos 2) *ℤ t.high_den) ≤ℤ (z *ℤ pos c)) y u.high in
    let low = low_quotient (l +ℤ pos 2) t.low_den b (mapped_one layer) p (mapped_some layer) k ld.to eb (omega (arith, ints, ld.from, ea, cq)) in
    let high = high_quotient (h -ℤ pos 2) t.high_den a (mapped_one layer) q m hd.from ea in
    let small = greatest_square_le sine_amount sl sh e.low e.high in
    let bend = square-mono g (greatest_end sl sh) (layer_sine_le layer (greatest_end sl sh)) in
    let fit = slant_fits layer (f + g * g) p rp (omega (arith, small, bend)) in
    let order = layer_sine_mono layer (least_end sl sh) (greatest_end sl sh) (least_le_greatest_end sl sh e.order) in
    let spread = layer_sine_spread layer (sine_slope d) (least_end sl sh) (greatest_end sl sh) (omega (arith, n)) in
    let w = natural_width layer d s g p q (up (l +ℤ pos 2)) (up (h -ℤ pos 2)) rq rp order fit spread high low.0 in
    ends_width l h (up (h -ℤ pos 2) - up (l +ℤ pos 2)) (10 ^ 11 + 10 ^ 16 * d / layer_room layer) low.1 (omega arith) w
