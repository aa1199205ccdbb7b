-- A face that is nearly reached is tight, and what is allowed is reached.
use Rattle.std.proofs.Common.{◌≡◌, ℕ, ◌+◌, ◌*◌, ◌<◌, ◌≤◌, arith, refl}
use Rattle.std.specs.Prelude.{ℤ, pos, ◌+ℤ◌, ◌-ℤ◌, ◌*ℤ◌, ◌≤ℤ◌}
use Rattle.std.proofs.lemmas.Int.{ints, by_lt_z}
use Rattle.std.proofs.lemmas.Nat.{mul-le}
use Rattle.grid_model.specs.Boxes.{Side}
use Rattle.grid_model.specs.Amounts.{least_amount, greatest_amount, square}
use Rattle.grid_model.specs.Intervals.{Between}
use Rattle.grid_model.specs.Roots.{IsRoot, root}
use Rattle.grid_model.proofs.RootLemmas.{root_is, square-mono, root_mono, less_of_squares, root_le}
use Rattle.range_contractor.specs.Ranges.{IsWanted}
use Rattle.range_contractor.specs.Sides.{IsNearlyReached}
use Rattle.range_contractor.specs.Squares.{AreDifferenceSquares, AreRangeSquares}

-- ---- a sum of squares whose parts grow

pub square_le_back : (a m : ℕ) → a * a ≤ m * m → a ≤ m
square_le_back a m h = grind (arith, square-mono (m + 1) a)

grown_le : (a k r m : ℕ) → a * a + r ≤ m * m → (a + k) * (a + k) + r ≤ (m + k) * (m + k)
grown_le a k r m h =
    let le : a ≤ m = square_le_back a m (omega arith) in
    let x = mul-le a k m k le (omega arith) in
    omega arith

grown_lt : (a k r m : ℕ) → a * a + r < m * m → (a + k) * (a + k) + r < (m + k) * (m + k)
grown_lt a k r m h =
    let le : a ≤ m = square_le_back a m (omega arith) in
    let x = mul-le a k m k le (omega arith) in
    omega arith

-- parts that are greater by at most g each
near_sum : (g a b c x y z h : ℕ) → a ≤ x + g → b ≤ y + g → c ≤ z + g
    → x * x + (y * y + z * z) ≤ h * h
    → a * a + b * b + c * c ≤ (h + 3 * g) * (h + 3 * g)
near_sum g a b c x y z h p q r s =
    let one : (x + g) * (x + g) + (y * y + z * z) ≤ (h + g) * (h + g) = grown_le x g (y * y + z * z) h s in
    let two : (y + g) * (y + g) + ((x + g) * (x + g) + z * z) ≤ (h + g + g) * (h + g + g) = grown_le y g ((x + g) * (x + g) + z * z) (h + g) (omega arith) in
    let three : (z + g) * (z + g) + ((x + g) * (x + g) + (y + g) * (y + g)) ≤ (h + g + g + g) * (h + g + g + g) = grown_le z g ((x + g) * (x + g) + (y + g) * (y + g)) (h + g + g) (omega arith) in
    let i = square-mono a (x + g) p in
    let j = square-mono b (y + g) q in
    let k = square-mono c (z + g) r in
    omega arith

far_sum : (g a b c x y z h : ℕ) → x ≤ a + g → y ≤ b + g → z ≤ c + g → a * a + b * b + c * c < h * h
    → x * x + (y * y + z * z) < (h + 3 * g) * (h + 3 * g)
far_sum g a b c x y z h p q r s =
    let one : (a + g) * (a + g) + (b * b + c * c) < (h + g) * (h + g) = grown_lt a g (b * b + c * c) h (omega arith) in
    let two : (b + g) * (b + g) + ((a + g) * (a + g) + c * c) < (h + g + g) * (h + g + g) = grown_lt b g ((a + g) * (a + g) + c * c) (h + g) (omega arith) in
    let three : (c + g) * (c + g) + ((a + g) * (a + g) + (b + g) * (b + g)) < (h + g + g + g) * (h + g + g + g) = grown_lt c g ((a + g) * (a + g) + (b + g) * (b + g)) (h + g + g) (omega arith) in
    let i = square-mono x (a + g) p in
    let j = square-mono y (b + g) q in
    let k = square-mono z (c + g) r in
    omega arith

-- ---- the ranges to a layer meet those wanted

pub record Meet (near far : ℕ) (from to : ℤ) : Type 0 where
  pub range : ℤ
  pub reached : Between (pos near) (pos far) range
  pub wanted : Between from to range

meeting : (near far : ℕ) (from to : ℤ) → near ≤ far → from ≤ℤ to → pos near ≤ℤ to → from ≤ℤ pos far
    → Meet near far from to
meeting near far from to h k l m = by_lt_z (pos near) from
    (λ lt. record { range = from; reached = record { from = omega (arith, ints); to = m }; wanted = record { from = omega (arith, ints); to = k } })
    (λ le. record { range = pos near; reached = record { from = omega (arith, ints); to = omega (arith, ints) }; wanted = record { from = le; to = l } })

-- near and far squares of a layer, by the amounts of the axis and of the two others
pub tight : (g : ℕ) (from to least most : ℤ) (low high : ℕ) (place : Side) (v : ℤ) (other other' side side' : Side) (l h l' h' near far : ℕ)
    → 1 ≤ g → IsWanted from to least most → AreRangeSquares (pos g) least most low high
    → AreDifferenceSquares (pos g) other side l h
    → AreDifferenceSquares (pos g) other' side' l' h'
    → IsNearlyReached (pos g) place low high (l + l') (h + h') v
    → near ≡ square (least_amount place.lo place.hi v v) + square (least_amount other.lo other.hi side.lo side.hi) + square (least_amount other'.lo other'.hi side'.lo side'.hi)
    → far ≡ square (greatest_amount place.lo place.hi v v) + square (greatest_amount other.lo other.hi side.lo side.hi) + square (greatest_amount other'.lo other'.hi side'.lo side'.hi)
    → near ≤ far
    → Meet (root near) (root far) (from -ℤ (pos 16 *ℤ pos g)) (to +ℤ (pos 16 *ℤ pos g))
tight g from to least most low high place v other other' side side' l h l' h' near far one w r o o' n near_is far_is le =
    let near_fits : near ≤ (r.to + 3 * g) * (r.to + 3 * g) = rw near_is
    (near_sum g (least_amount place.lo place.hi v v) (least_amount other.lo other.hi side.lo side.hi) (least_amount other'.lo other'.hi side'.lo side'.hi)
    n.most o.least o'.least r.to (omega (arith, ints, n.near)) (omega (arith, ints, o.near)) (omega (arith, ints, o'.near))
    (omega (arith, n.most_fits, r.high_is, o.low_is, o'.low_is))) in
    let far_root : IsRoot far (root far) = root_is far in
    let far_fits = far_sum g (greatest_amount place.lo place.hi v v) (greatest_amount other.lo other.hi side.lo side.hi) (greatest_amount other'.lo other'.hi side'.lo side'.hi)
    (n.least + 1) o.greatest o'.greatest (root far + 1) (omega (arith, ints, n.far)) (omega (arith, ints, o.far)) (omega (arith, ints, o'.far))
    (omega (arith, far_root.next_square_gt, far_is)) in
    let x : root near ≤ r.to + 3 * g = root_le near (r.to + 3 * g) near_fits in
    let y : r.from < root far + 1 + 3 * g = less_of_squares r.from (root far + 1 + 3 * g) (omega (arith, far_fits, n.least_fits, r.low_is, o.high_is, o'.high_is)) in
    let z : root near ≤ root far = root_mono near far (root near) (root far) (root_is near) far_root le in
    let s : pos 16 *ℤ pos g ≡ pos (16 * g) = refl in
    rw s (meeting (root near) (root far) (from -ℤ pos (16 * g)) (to +ℤ pos (16 * g)) z
    (omega (arith, ints, w.low, w.high, w.ordered))
    (omega (arith, ints, x, r.to_near, w.high))
    (omega (arith, ints, y, r.from_near, w.low)))
