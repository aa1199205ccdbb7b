-- Products of members: between which ends they lie, and how far these are apart.
use Rattle.std.proofs.Common.{◌≡◌, ℕ, ◌+◌, ◌*◌, ◌≤◌, arith, refl, sym, subst, ◌⊎◌, ⊎_elim}
use Rattle.std.specs.Prelude.{ℤ, pos, negsuc, ◌+ℤ◌, ◌*ℤ◌, ◌≤ℤ◌}
use Rattle.std.specs.Int.{int_max, int_min}
use Rattle.std.proofs.lemmas.Int.{ints, clamps}
use lib.IntN.{*ℤ_comm}
use Rattle.grid_model.specs.Intervals.{Between, Ends}
use Rattle.grid_model.specs.Products.{least_product, greatest_product, ProductsWithin}
use Rattle.grid_model.proofs.ProductLemmas.{mul_mono, mul_anti, product_within, products_apart, larger}
use Rattle.grid_model.proofs.IntervalLemmas.{low_member, high_member, member_within, members_within}

-- ---- a product of members lies between the least and the greatest product of ends

left_least : (lo hi a b : ℤ) → lo ≤ℤ a → a ≤ℤ hi → int_min (lo *ℤ b) (hi *ℤ b) ≤ℤ (a *ℤ b)
left_least lo hi a (pos n) h k = omega (arith, ints, clamps, mul_mono lo a (pos n) h (omega (arith, ints)))
left_least lo hi a (negsuc n) h k = omega (arith, ints, clamps, mul_anti a hi (negsuc n) k (omega (arith, ints)))

left_greatest : (lo hi a b : ℤ) → lo ≤ℤ a → a ≤ℤ hi → (a *ℤ b) ≤ℤ int_max (lo *ℤ b) (hi *ℤ b)
left_greatest lo hi a (pos n) h k = omega (arith, ints, clamps, mul_mono a hi (pos n) k (omega (arith, ints)))
left_greatest lo hi a (negsuc n) h k = omega (arith, ints, clamps, mul_anti lo a (negsuc n) h (omega (arith, ints)))

right_least : (lo hi a b : ℤ) → lo ≤ℤ b → b ≤ℤ hi → int_min (a *ℤ lo) (a *ℤ hi) ≤ℤ (a *ℤ b)
right_least lo hi a b h k = rw (*ℤ_comm a lo, *ℤ_comm a hi, *ℤ_comm a b) (left_least lo hi b a h k)

right_greatest : (lo hi a b : ℤ) → lo ≤ℤ b → b ≤ℤ hi → (a *ℤ b) ≤ℤ int_max (a *ℤ lo) (a *ℤ hi)
right_greatest lo hi a b h k = rw (*ℤ_comm a lo, *ℤ_comm a hi, *ℤ_comm a b) (left_greatest lo hi b a h k)

min_chain : (s t u v x y z : ℤ) → int_min x y ≤ℤ z → int_min s t ≤ℤ x → int_min u v ≤ℤ y
    → int_min (int_min s t) (int_min u v) ≤ℤ z
min_chain s t u v x y z h k l = omega (arith, ints, clamps)

max_chain : (s t u v x y z : ℤ) → z ≤ℤ int_max x y → x ≤ℤ int_max s t → y ≤ℤ int_max u v
    → z ≤ℤ int_max (int_max s t) (int_max u v)
max_chain s t u v x y z h k l = omega (arith, ints, clamps)

spread : (s t u v : ℤ) → int_min (int_min s t) (int_min u v) ≤ℤ int_max (int_max s t) (int_max u v)
spread s t u v = omega (arith, ints, clamps)

pub least_le_product : (a b c d x y : ℤ) → Between a b x → Between c d y
    → least_product a b c d ≤ℤ (x *ℤ y)
least_le_product a b c d x y p q =
    min_chain (a *ℤ c) (a *ℤ d) (b *ℤ c) (b *ℤ d) (a *ℤ y) (b *ℤ y) (x *ℤ y)
    (left_least a b x y p.from p.to) (right_least c d a y q.from q.to) (right_least c d b y q.from q.to)

pub product_le_greatest : (a b c d x y : ℤ) → Between a b x → Between c d y
    → (x *ℤ y) ≤ℤ greatest_product a b c d
product_le_greatest a b c d x y p q =
    max_chain (a *ℤ c) (a *ℤ d) (b *ℤ c) (b *ℤ d) (a *ℤ y) (b *ℤ y) (x *ℤ y)
    (left_greatest a b x y p.from p.to) (right_greatest c d a y q.from q.to) (right_greatest c d b y q.from q.to)

pub least_le_greatest : (a b c d : ℤ) → least_product a b c d ≤ℤ greatest_product a b c d
least_le_greatest a b c d = spread (a *ℤ c) (a *ℤ d) (b *ℤ c) (b *ℤ d)

-- ---- what holds of each product of ends holds of the least and of the greatest

pub min_is_one : (s t : ℤ) → (int_min s t ≡ s) ⊎ (int_min s t ≡ t)
min_is_one s t = grind arith

pub max_is_one : (s t : ℤ) → (int_max s t ≡ s) ⊎ (int_max s t ≡ t)
max_is_one s t = grind arith

pub pick_min : (P : ℤ → Type 0) (s t : ℤ) → P s → P t → P (int_min s t)
pick_min P s t p q = ⊎_elim (λ (e : int_min s t ≡ s). subst P (sym e) p) (λ (e : int_min s t ≡ t). subst P (sym e) q) (min_is_one s t)

pub pick_max : (P : ℤ → Type 0) (s t : ℤ) → P s → P t → P (int_max s t)
pick_max P s t p q = ⊎_elim (λ (e : int_max s t ≡ s). subst P (sym e) p) (λ (e : int_max s t ≡ t). subst P (sym e) q) (max_is_one s t)

pub least_has : (P : ℤ → Type 0) (a b c d : ℤ) → P (a *ℤ c) → P (a *ℤ d) → P (b *ℤ c) → P (b *ℤ d)
    → P (least_product a b c d)
least_has P a b c d p q r s =
    pick_min P (int_min (a *ℤ c) (a *ℤ d)) (int_min (b *ℤ c) (b *ℤ d)) (pick_min P (a *ℤ c) (a *ℤ d) p q) (pick_min P (b *ℤ c) (b *ℤ d) r s)

pub greatest_has : (P : ℤ → Type 0) (a b c d : ℤ) → P (a *ℤ c) → P (a *ℤ d) → P (b *ℤ c)
    → P (b *ℤ d) → P (greatest_product a b c d)
greatest_has P a b c d p q r s =
    pick_max P (int_max (a *ℤ c) (a *ℤ d)) (int_max (b *ℤ c) (b *ℤ d)) (pick_max P (a *ℤ c) (a *ℤ d) p q) (pick_max P (b *ℤ c) (b *ℤ d) r s)

-- the least and the greatest product with one number are those of a member
pub record IsMultiple (lo hi n z : ℤ) : Type 0 where
  pub of : ℤ
  pub member : Between lo hi of
  pub is : of *ℤ n ≡ z

pub least_multiple : (lo hi n : ℤ) → lo ≤ℤ hi → IsMultiple lo hi n (least_product lo hi n n)
least_multiple lo hi n h =
    let l : IsMultiple lo hi n (lo *ℤ n) = record { of = lo; member = low_member lo hi h; is = refl } in
    let g : IsMultiple lo hi n (hi *ℤ n) = record { of = hi; member = high_member lo hi h; is = refl } in
    least_has (λ (z : ℤ). IsMultiple lo hi n z) lo hi n n l l g g

pub greatest_multiple : (lo hi n : ℤ) → lo ≤ℤ hi → IsMultiple lo hi n (greatest_product lo hi n n)
greatest_multiple lo hi n h =
    let l : IsMultiple lo hi n (lo *ℤ n) = record { of = lo; member = low_member lo hi h; is = refl } in
    let g : IsMultiple lo hi n (hi *ℤ n) = record { of = hi; member = high_member lo hi h; is = refl } in
    greatest_has (λ (z : ℤ). IsMultiple lo hi n z) lo hi n n l l g g

-- ---- by the amounts and the widths of the ends

pub products_within : (m v n w : ℕ) (a b c d : ℤ) → Ends m v a b → Ends n w c d
    → ProductsWithin (m * n) a b c d
products_within m v n w a b c d e f = record {
  low_low = product_within m n a c e.low f.low;
  low_high = product_within m n a d e.low f.high;
  high_low = product_within m n b c e.high f.low;
  high_high = product_within m n b d e.high f.high;
}

-- the condition of a product
pub products_fit : (k m v n w : ℕ) (a b c d : ℤ) → m * n ≤ k → Ends m v a b → Ends n w c d
    → ProductsWithin k a b c d
products_fit k m v n w a b c d h e f =
    let p = products_within m v n w a b c d e f in
    record { low_low = larger (m * n) k (a *ℤ c) h p.low_low; low_high = larger (m * n) k (a *ℤ d) h p.low_high; high_low = larger (m * n) k (b *ℤ c) h p.high_low; high_high = larger (m * n) k (b *ℤ d) h p.high_high }

corner_apart : (m v n w : ℕ) (a b c d x x' y y' : ℤ) → Ends m v a b → Ends n w c d → Between a b x
    → Between a b x' → Between c d y → Between c d y'
    → (x *ℤ y) ≤ℤ ((x' *ℤ y') +ℤ pos (m * w + n * v))
corner_apart m v n w a b c d x x' y y' e f p p' q q' =
    products_apart x x' y y' m n v w (member_within m v a b x e p) (member_within n w c d y' f q') (members_within m v a b x x' e p p') (members_within n w c d y y' f q q')

pub products_spread : (m v n w : ℕ) (a b c d : ℤ) → Ends m v a b → Ends n w c d
    → greatest_product a b c d ≤ℤ (least_product a b c d +ℤ pos (m * w + n * v))
products_spread m v n w a b c d e f =
    let al = low_member a b e.order in
    let ah = high_member a b e.order in
    let cl = low_member c d f.order in
    let ch = high_member c d f.order in
    let k = λ (x y : ℤ) (p : Between a b x) (q : Between c d y). least_has (λ (z : ℤ). (x *ℤ y) ≤ℤ (z +ℤ pos (m * w + n * v))) a b c d
    (corner_apart m v n w a b c d x a y c e f p al q cl) (corner_apart m v n w a b c d x a y d e f p al q ch) (corner_apart m v n w a b c d x b y c e f p ah q cl) (corner_apart m v n w a b c d x b y d e f p ah q ch) in
    greatest_has (λ (z : ℤ). z ≤ℤ (least_product a b c d +ℤ pos (m * w + n * v))) a b c d (k a c al cl) (k a d al ch) (k b c ah cl) (k b d ah ch)
