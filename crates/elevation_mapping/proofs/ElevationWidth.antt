-- How far the sine of the elevation is spread.
use Rattle.std.proofs.Common.{◌≡◌, ℕ, ◌+◌, ◌-◌, ◌*◌, ◌/◌, ◌^◌, ◌≤◌, max, arith, lit≤, subst, refl, ◌⊎◌, ⊎_elim}
use Rattle.std.specs.Prelude.{ℤ, pos, neg_ℤ, ◌+ℤ◌, ◌-ℤ◌, ◌*ℤ◌, ◌≤ℤ◌, ◌<ℤ◌}
use Rattle.std.proofs.lemmas.Int.{ints}
use borrow.Author.Differences.{up, down}
use Rattle.std.proofs.lemmas.Nat.{mul-le}
use Rattle.grid_model.specs.Amounts.{square}
use Rattle.grid_model.specs.Angles.{unit}
use Rattle.grid_model.specs.Intervals.{Between, Ends}
use Rattle.grid_model.specs.Roots.{root}
use Rattle.grid_model.specs.Rounding.{Near, IsTightQuotient}
use Rattle.grid_model.specs.Squares.{least_end, greatest_end}
use Rattle.grid_model.proofs.IntervalLemmas.{low_member, high_member}
use Rattle.grid_model.proofs.SquareLemmas.{one_part}
use Rattle.fix_interval.specs.declared.exact.Exact.{Exact}
use Rattle.fix_interval.specs.declared.place.Place.{Place}
use Rattle.fix_interval.specs.Factors.{HasEnds}
use Rattle.fix_interval.proofs.NearLemmas.{held_fraction}
use Rattle.fix_interval.specs.Places.{PlaceEnds}
use Rattle.elevation_mapping.specs.Places.{least_sum, greatest_sum}
use Rattle.elevation_mapping.specs.SineSizes.{up_amount, offset_amount, length_amount, least_up, least_range, sine_slope}
use Rattle.elevation_mapping.proofs.Lengths.{root_at_least, length_ends, lengths_apart, lengths_order, amounts_small, own_ends}
use Rattle.elevation_mapping.proofs.Quotients.{ends_amount, up_scaled, down_scaled, quotient_apart}
use Rattle.elevation_mapping.proofs.SineWidth.{up_slope, line_slope, slopes_sum, line_spread, up_spread, line_small, up_small, length_slope, length_small, axes_spread, inner_step, height_step, scaled_step, sine_step}
use Rattle.fix_interval.proofs.PlaceLemmas.{wider_place}

-- in natural numbers
natural_apart : (l h c : ℤ) (t v : ℕ) → l ≤ℤ h → c ≡ pos v
    → ((h -ℤ l) *ℤ c) ≤ℤ (pos t +ℤ (pos 4 *ℤ c)) → up (h -ℤ l) * v ≤ t + 4 * v
natural_apart l h c t v o e k =
    let n : (h -ℤ l) ≡ pos (up (h -ℤ l)) = omega (arith, ints, one_part (h -ℤ l)) in
    let f : (h -ℤ l) *ℤ c ≡ pos (up (h -ℤ l) * v) = rw (n, e) refl in
    omega (arith, ints, f, e, k)

either_scaled : (m a b t u : ℕ) → (m ≡ a) ⊎ (m ≡ b) → a * u ≤ t → b * u ≤ t → m * u ≤ t
either_scaled m a b t u c h k = ⊎_elim (λ (e : m ≡ a). rw e h) (λ (e : m ≡ b). rw e k) c

max_is : (a b : ℕ) → (max a b ≡ a) ⊎ (max a b ≡ b)
max_is a b = grind arith

greatest_scaled : (a b c d r u : ℕ) → a * u ≤ c * r → b * u ≤ d * r → max a b * u ≤ max c d * r
greatest_scaled a b c d r u h k =
    let i = mul-le c r (max c d) r (omega arith) (omega arith) in
    let j = mul-le d r (max c d) r (omega arith) (omega arith) in
    either_scaled (max a b) a b (max c d * r) u (max_is a b) (omega (arith, h, i)) (omega (arith, k, j))

-- the amounts of both quotients
scaled_amount : (ql qh l h c : ℤ) (r : ℕ) → ql ≤ℤ qh → l ≤ℤ h → c ≡ pos r → pos 0 <ℤ c
    → ((g q : ℤ) → Between ql qh g → Near (g *ℤ pos unit) c q → Between l h q)
    → greatest_end ql qh * unit ≤ greatest_end l h * r
scaled_amount ql qh l h c r o p e pc f =
    let low = held_fraction (ql *ℤ pos unit) c l h pc (λ t j. f ql t (low_member ql qh o) j) in
    let high = held_fraction (qh *ℤ pos unit) c l h pc (λ t j. f qh t (high_member ql qh o) j) in
    let a : (l *ℤ pos r) ≤ℤ (ql *ℤ pos unit) = subst (λ (z : ℤ). (l *ℤ z) ≤ℤ (ql *ℤ pos unit)) e low.from in
    let b : (qh *ℤ pos unit) ≤ℤ (h *ℤ pos r) = subst (λ (z : ℤ). (qh *ℤ pos unit) ≤ℤ (h *ℤ z)) e high.to in
    greatest_scaled (down ql) (up qh) (down l) (up h) r unit (down_scaled ql l unit r a) (up_scaled qh h unit r b)

own_width : (n : ℕ) (l h : ℤ) → l ≤ℤ h → Ends (greatest_end l h) (up (h -ℤ l)) l h
own_width n l h o = let e = ends_amount l h o in record { order = o; low = e.0; high = e.1; width = omega (arith, ints, one_part (h -ℤ l)) }

padded_apart : (l h m n : ℤ) → l ≤ℤ h → m ≡ l +ℤ neg_ℤ (pos 8) → n ≡ h +ℤ pos 8
    → (greatest_end m n ≤ least_end m n + up (h -ℤ l) + 16) × (greatest_end l h ≤ greatest_end m n)
padded_apart l h m n o e f = (omega (arith, ints, one_part m, one_part n, one_part (h -ℤ l)), omega (arith, ints, one_part l, one_part h, one_part m, one_part n))

last_step : (g l z s t : ℕ) → g ≤ l + z + 16 → s ≤ g
    → z * unit ≤ t * (s + 109 * 10 ^ 14) + 10004 * unit
    → g * unit ≤ l * unit + (t * (g + 109 * 10 ^ 14) + 10020 * unit)
last_step g l z s t h k i = let j = mul-le t (s + 109 * 10 ^ 14) t (g + 109 * 10 ^ 14) (omega arith) (omega arith) in omega (arith, h, i, j)

total : (a b z m : ℕ) → a ≡ b → z ≤ a * (m + 109 * 10 ^ 14) + 10004 * unit
    → z ≤ b * (m + 109 * 10 ^ 14) + 10004 * unit
total a b z m e h = subst (λ (k : ℕ). z ≤ k * (m + 109 * 10 ^ 14) + 10004 * unit) e h

-- all lengths as natural numbers
width_in_steps : (d s t x y v r n g w z m : ℕ) → d ≤ 2 * 10 ^ 11 → least_up ≤ v → least_range ≤ r
    → 4 * s ≤ 7 * (v + x + 1) → 4 * t ≤ 7 * (r + y + 1) → 4 * x ≤ 7 * (d + d / 148 + 5) + 4
    → 4 * y ≤ 7 * (d + (2000 + d / 40000)) + 4 →
    n ≤ s * (d + (2000 + d / 40000)) + t * (d + d / 148 + 5) + 12 → w * v ≤ (g + 2) * x + n + 4 * v → g * unit ≤ m * r → z * r ≤ (m + 2) * y + unit * w + 4 * r → z * unit ≤ sine_slope d * (m + 109 * 10 ^ 14) + 10004 * unit
width_in_steps d s t x y v r n g w z m k lv lr hs ht hx hy hn hw hg hz =
    let e = d + (2000 + d / 40000) in
    let f = d + d / 148 + 5 in
    let p = line_slope d in
    let q = up_slope d in
    let el = line_spread d r lr in
    let eu = up_spread d v lv in
    let a = axes_spread s e v x p r hs (length_small f x v hx (up_small d v k lv)) el in
    let b = axes_spread t f r y q v ht (length_small e y r hy (line_small d r k lr)) eu in
    let c = inner_step n s e t f p q r v hn a b in
    let h = height_step w n g x p q r v lv hw (length_slope f x q v hx eu) c in
    let i = scaled_step w g m p q r hg h in
    let j = sine_step z w g m y p q r lr hz (length_slope e y p r hy el) i in
    total (p + q) (sine_slope d) (z * unit) m (omega (arith, slopes_sum d)) j

pub elevation_width : (d : ℕ) (a b : Place) (inner : Exact) (vl vh ql qh rl rh l h m n : ℤ)
    → d ≤ 2 * 10 ^ 11 → PlaceEnds up_amount (d + d / 148 + 5) a
    → PlaceEnds offset_amount (d + (2000 + d / 40000)) b → square least_up ≤ least_sum a
    → square least_range ≤ least_sum b →
    vl ≡ pos (root (least_sum a)) → vh ≡ pos (root (greatest_sum a)) → rl ≡ pos (root (least_sum b)) → rh ≡ pos (root (greatest_sum b)) →
    ((k l m i j n v w : ℕ) → HasEnds k v a.x → HasEnds l v a.y → HasEnds m v a.z → HasEnds i w b.x → HasEnds j w b.y → HasEnds n w b.z → HasEnds (k * i + l * j + m * n + 6) ((k + l + m) * w + (i + j + n) * v + 12) inner) →
    ql ≤ℤ qh → IsTightQuotient inner.lo inner.hi vl vh (pos 1) ql qh → l ≤ℤ h → IsTightQuotient ql qh rl rh (pos unit) l h → ((g q : ℤ) → Between ql qh g → Near (g *ℤ pos unit) rl q → Between l h q) → pos 0 <ℤ rl → m ≡ l +ℤ neg_ℤ (pos 8) → n ≡ h +ℤ pos 8 →
    greatest_end m n * unit ≤ least_end m n * unit + (sine_slope d * (greatest_end m n + 109 * 10 ^ 14) + 10020 * unit)
elevation_width d a b inner vl vh ql qh rl rh l h m n k eu el fu fl ivl ivh irl irh narrow oq tq os ts hs pr em en =
    let e = d + (2000 + d / 40000) in
    let f = d + d / 148 + 5 in
    let v = root (least_sum a) in
    let v' = root (greatest_sum a) in
    let r = root (least_sum b) in
    let r' = root (greatest_sum b) in
    let lv = root_at_least least_up (least_sum a) fu in
    let lr = root_at_least least_range (least_sum b) fl in
    let pv : pos 0 <ℤ vl = omega (arith, ints, ivl, lv) in
    let ax = greatest_end a.x.lo a.x.hi in
    let ay = greatest_end a.y.lo a.y.hi in
    let az = greatest_end a.z.lo a.z.hi in
    let bx = greatest_end b.x.lo b.x.hi in
    let by = greatest_end b.y.lo b.y.hi in
    let bz = greatest_end b.z.lo b.z.hi in
    let i = narrow ax ay az bx by bz f e (own_ends up_amount f a.x.lo a.x.hi eu.x_ends) (own_ends up_amount f a.y.lo a.y.hi eu.y_ends) (own_ends up_amount f a.z.lo a.z.hi eu.z_ends) (own_ends offset_amount e b.x.lo b.x.hi el.x_ends) (own_ends offset_amount e b.y.lo b.y.hi el.y_ends) (own_ends offset_amount e b.z.lo b.z.hi el.z_ends) in
    let N = (ax + ay + az) * e + (bx + by + bz) * f + 12 in
    let G = greatest_end ql qh in
    let S = greatest_end l h in
    let w = up (qh -ℤ ql) in
    let z = up (h -ℤ l) in
    let au = length_ends f a vl vh (wider_place up_amount offset_amount f f a (lit≤ tt) (omega arith) eu) ivl ivh in
    let al = length_ends e b rl rh el irl irh in
    let hq = quotient_apart G N (v' - v) 1 _ length_amount inner.lo inner.hi vl vh ql qh i au pv (ends_amount ql qh oq).0 tq in
    let hz = quotient_apart S w (r' - r) unit G length_amount ql qh rl rh l h (own_width 0 ql qh oq) al pr (ends_amount l h os).0 ts in
    let nq = natural_apart ql qh vl ((G + 2) * (v' - v) + N * 1) v oq ivl hq in
    let nz = natural_apart l h rl ((S + 2) * (r' - r) + w * unit) r os irl hz in
    let p = padded_apart l h m n os em en in
    let ou = lengths_order up_amount f a eu in
    let ol = lengths_order offset_amount e b el in
    let c = width_in_steps d (ax + ay + az) (bx + by + bz) (v' - v) (r' - r) v r N G w z S k lv lr (omega (arith, amounts_small a, ou)) (omega (arith, amounts_small b, ol)) (omega (arith, lengths_apart up_amount f a eu, ou)) (omega (arith, lengths_apart offset_amount e b el, ol)) (omega arith) (omega (arith, nq)) (scaled_amount ql qh l h rl r oq os irl pr hs) (omega (arith, nz)) in
    last_step (greatest_end m n) (least_end m n) z S (sine_slope d) p.0 p.1 c
