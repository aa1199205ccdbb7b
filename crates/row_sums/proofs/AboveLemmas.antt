-- A sum is above its bound at each point of the box where it is at the corner where it is least.
use Rattle.std.proofs.Common.{◌≡◌, ℕ, ◌≤◌, ◌<◌, arith, ap, ◌∙◌, FitsSigned}
use Rattle.std.specs.Int.{w128}
use Rattle.std.specs.Prelude.{ℤ, pos, ◌+ℤ◌, ◌-ℤ◌, ◌*ℤ◌, ◌≤ℤ◌, ◌<ℤ◌}
use Rattle.std.proofs.lemmas.Int.{ints}
use Rattle.grid_model.specs.declared.boxes.Pos.{Pos}
use Rattle.grid_model.specs.Boxes.{GridBox, middle}
use Rattle.grid_model.specs.Sizes.{IsWithin}
use Rattle.grid_model.proofs.ProductLemmas.{distrib, distrib_less, mul_assoc}
use Rattle.sat_model.specs.Pairs.{tilt}
use Rattle.row_pairs.specs.Leasts.{IsLeastLead}
use Rattle.sat_model.specs.declared.half_spaces.HalfSpace.{HalfSpace}
use Rattle.sat_model.specs.HalfSpaces.{along, SumValue, sum_tilt, IsAbove}
use Rattle.row_sums.specs.SumValues.{slope_form, aim_form}

-- how far along the direction the middle of the box is
abbrev pub middle_way : HalfSpace → GridBox → ℤ
middle_way h part = (h.x *ℤ middle part.x) +ℤ (h.y *ℤ middle part.y) +ℤ (h.z *ℤ middle part.z)

axis : (a d p m : ℤ) → (a *ℤ d) *ℤ (p -ℤ m) ≡ (a *ℤ (d *ℤ p)) -ℤ (a *ℤ (d *ℤ m))
axis a d p m = mul_assoc a d (p -ℤ m) ∙ ap (λ (z : ℤ). a *ℤ z) (distrib_less d p m) ∙ distrib_less a (d *ℤ p) (d *ℤ m)

three : (a x y z : ℤ) → a *ℤ (x +ℤ y +ℤ z) ≡ (a *ℤ x) +ℤ (a *ℤ y) +ℤ (a *ℤ z)
three a x y z = distrib a (x +ℤ y) z ∙ ap (λ (t : ℤ). t +ℤ (a *ℤ z)) (distrib a x y)

slack_atoms : (lp lm k xp yp zp xm ym zm ap am tx ty tz : ℤ) → lp ≡ k -ℤ ap → lm ≡ k -ℤ am
    → ap ≡ xp +ℤ yp +ℤ zp → am ≡ xm +ℤ ym +ℤ zm
    → tx ≡ xp -ℤ xm → ty ≡ yp -ℤ ym → tz ≡ zp -ℤ zm
    → lp ≡ lm -ℤ (tx +ℤ ty +ℤ tz)
slack_atoms lp lm k xp yp zp xm ym zm ap am tx ty tz e f g h i j l = omega (arith, ints)

slack_is : (h : HalfSpace) (aim : ℕ) (part : GridBox) (p : Pos)
    → pos aim *ℤ ((h.most +ℤ pos 1) -ℤ along h p) ≡ (pos aim *ℤ ((h.most +ℤ pos 1) -ℤ middle_way h part)) -ℤ tilt (aim_form aim h) part p
slack_is h aim part p =
    let a = pos aim in
    let k = h.most +ℤ pos 1 in
    slack_atoms _ _ (a *ℤ k)
    (a *ℤ (h.x *ℤ p.x)) (a *ℤ (h.y *ℤ p.y)) (a *ℤ (h.z *ℤ p.z))
    (a *ℤ (h.x *ℤ middle part.x)) (a *ℤ (h.y *ℤ middle part.y)) (a *ℤ (h.z *ℤ middle part.z))
    (a *ℤ along h p) (a *ℤ middle_way h part) _ _ _
    (distrib_less a k (along h p)) (distrib_less a k (middle_way h part))
    (three a (h.x *ℤ p.x) (h.y *ℤ p.y) (h.z *ℤ p.z)) (three a (h.x *ℤ middle part.x) (h.y *ℤ middle part.y) (h.z *ℤ middle part.z))
    (axis a h.x p.x (middle part.x)) (axis a h.y p.y (middle part.y)) (axis a h.z p.z (middle part.z))

pub above_from : (part : GridBox) (h : HalfSpace) (aim : ℕ) (s : SumValue) (r : ℤ)
    → IsLeastLead part (slope_form s) (aim_form aim h) r
    → s.most <ℤ (r +ℤ (pos aim *ℤ ((h.most +ℤ pos 1) -ℤ middle_way h part))) → IsAbove part h aim s
above_from part h aim s r least k p i = apart s.most r (pos aim *ℤ ((h.most +ℤ pos 1) -ℤ middle_way h part)) _ (sum_tilt s part p) (tilt (aim_form aim h) part p) k (least.least p i) (slack_is h aim part p)
  where
    apart : (m r lm lp t g : ℤ) → m <ℤ (r +ℤ lm) → r ≤ℤ (t -ℤ g) → lp ≡ lm -ℤ g → m <ℤ (t +ℤ lp)
    apart m r lm lp t g h k e = omega (arith, ints)

pub above_to : (part : GridBox) (h : HalfSpace) (aim : ℕ) (s : SumValue) (r : ℤ)
    → IsLeastLead part (slope_form s) (aim_form aim h) r → IsAbove part h aim s
    → s.most <ℤ (r +ℤ (pos aim *ℤ ((h.most +ℤ pos 1) -ℤ middle_way h part)))
above_to part h aim s r least above = apart s.most r (pos aim *ℤ ((h.most +ℤ pos 1) -ℤ middle_way h part)) _ (sum_tilt s part least.at) (tilt (aim_form aim h) part least.at) (above least.at least.inside) least.is (slack_is h aim part least.at)
  where
    apart : (m r lm lp t g : ℤ) → m <ℤ (t +ℤ lp) → t -ℤ g ≡ r → lp ≡ lm -ℤ g → m <ℤ (r +ℤ lm)
    apart m r lm lp t g h e f = omega (arith, ints)

-- ---- sizes and sums

pub natural_within : (n m : ℕ) → n ≤ m → IsWithin m (pos n)
natural_within n m h = record { low = omega (arith, ints); high = omega (arith, ints) }

pub three_same : (a b d x y z : ℤ) → a ≡ x → b ≡ y → d ≡ z → a +ℤ b +ℤ d ≡ x +ℤ y +ℤ z
three_same a b d x y z e f g = cc

pub slack_within : (m w : ℤ) → IsWithin 9000000000000000000 m → IsWithin 30000000000000000000 w
    → IsWithin 40000000000000000000 ((m +ℤ pos 1) -ℤ w)
slack_within m w h k = record { low = omega (arith, ints, h.low, h.high, k.low, k.high); high = omega (arith, ints, h.low, h.high, k.low, k.high) }

pub fits128 : (m : ℕ) (z : ℤ) → IsWithin m z → m < 170141183460469231731687303715884105728
    → FitsSigned w128 z
fits128 m z h l = omega (arith, ints, h.low, h.high, l)
