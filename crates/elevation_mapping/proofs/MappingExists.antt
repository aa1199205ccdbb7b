-- Every point that the conditions allow has a mapping.
use Rattle.std.proofs.Common.{ℕ, ◌+◌, ◌*◌, ◌^◌, ◌≤◌, arith, refl, lit≤}
use Rattle.std.specs.Prelude.{ℤ, pos, nat_abs, ◌+ℤ◌, ◌-ℤ◌, ◌*ℤ◌, ◌<ℤ◌}
use Rattle.std.proofs.lemmas.Int.{ints}
use Rattle.grid_model.specs.Amounts.{square}
use Rattle.grid_model.specs.Angles.{unit}
use Rattle.grid_model.specs.Ranges.{range_to}
use Rattle.grid_model.specs.Roots.{root}
use Rattle.grid_model.specs.Squares.{sum_of_squares}
use Rattle.grid_model.specs.declared.boxes.Pos.{Pos}
use Rattle.grid_model.proofs.RootLemmas.{square-mono}
use Rattle.fix_interval.proofs.NearLemmas.{near_exists}
use Rattle.gnss_model.specs.Layers.{layer_scale, layer_floor}
use Rattle.gnss_model.specs.Mapping.{Mapping, IsRaised, up_scale, layer_sine, slant_of}
use Rattle.gnss_model.specs.declared.delays.Layer.{Layer}
use Rattle.gnss_model.specs.declared.delays.Layer.TheVariants.{Troposphere, Ionosphere}
use Rattle.elevation_mapping.proofs.Lengths.{root_at_least}

-- zu is hardly less than z in amount
pub raised_amount : (z zu : ℤ) → IsRaised z zu → nat_abs z ≤ nat_abs zu + 1
raised_amount z zu i = omega (arith, ints, i.below, i.above)

up_square : (a b : ℕ) → a ≤ b + 1 → a * a ≤ b * b + 2 * b + 1
up_square a b h = omega (arith, square-mono a (b + 1) h)

up_sum : (x y z zu : ℕ) → z ≤ zu + 1 → square (6 * 10 ^ 12) ≤ x * x + y * y + z * z
    → 1 * 1 ≤ x * x + y * y + zu * zu
up_sum x y z zu h k = grind (arith, up_square z zu h, k)

positive : (n : ℕ) → 1 ≤ n → pos 0 <ℤ pos n
positive n h = omega (arith, ints)

floor_positive : (layer : Layer) → 1 ≤ layer_floor layer
floor_positive Troposphere = lit≤ tt
floor_positive Ionosphere = lit≤ tt

slant_positive : (layer : Layer) (s : ℤ) → pos 0 <ℤ pos (1000 * slant_of layer s)
slant_positive layer s =
    let h : 1 ≤ slant_of layer s = root_at_least 1 (layer_floor layer + square (layer_sine layer (nat_abs s))) (omega (arith, floor_positive layer)) in
    positive (1000 * slant_of layer s) (omega (arith, h))

range_positive : (x y z : ℤ) (p : Pos)
    → square (5 * 10 ^ 12) ≤ sum_of_squares (x -ℤ p.x) (y -ℤ p.y) (z -ℤ p.z) → 1 ≤ range_to x y z p
unfolding range_to
range_positive x y z p h = root_at_least 1 (sum_of_squares (x -ℤ p.x) (y -ℤ p.y) (z -ℤ p.z)) (omega (arith, h))

pub mapping_exists : (layer : Layer) (p : Pos) (x y z : ℤ)
    → square (6 * 10 ^ 12) ≤ sum_of_squares p.x p.y p.z
    → square (5 * 10 ^ 12) ≤ sum_of_squares (x -ℤ p.x) (y -ℤ p.y) (z -ℤ p.z)
    → (factor : ℤ) × Mapping layer p x y z (range_to x y z p) factor
mapping_exists layer p x y z h k =
    let zu = near_exists (p.z *ℤ pos up_scale) (pos (10 ^ 14)) (record { lt = tt }) in
    let v = root (sum_of_squares p.x p.y zu.0) in
    let r = range_to x y z p in
    let pv = positive v (root_at_least 1 (sum_of_squares p.x p.y zu.0) (up_sum (nat_abs p.x) (nat_abs p.y) (nat_abs p.z) (nat_abs zu.0) (raised_amount p.z zu.0 zu.1) h)) in
    let pr = positive r (range_positive x y z p k) in
    let ux = near_exists (p.x *ℤ pos unit) (pos v) pv in
    let uy = near_exists (p.y *ℤ pos unit) (pos v) pv in
    let uz = near_exists (zu.0 *ℤ pos unit) (pos v) pv in
    let ex = near_exists ((x -ℤ p.x) *ℤ pos unit) (pos r) pr in
    let ey = near_exists ((y -ℤ p.y) *ℤ pos unit) (pos r) pr in
    let ez = near_exists ((z -ℤ p.z) *ℤ pos unit) (pos r) pr in
    let se = near_exists (((ux.0 *ℤ ex.0) +ℤ (uy.0 *ℤ ey.0)) +ℤ (uz.0 *ℤ ez.0)) (pos unit) (record { lt = tt }) in
    let mp = near_exists (pos (layer_scale layer * (unit * unit))) (pos (1000 * slant_of layer se.0)) (slant_positive layer se.0) in (
      mp.0,
      record {
        raised_z = zu.0;
        raised_z_is = zu.1;
        up_length = v;
        up_length_is = refl;
        up_x = ux.0;
        up_x_is = ux.1;
        up_y = uy.0;
        up_y_is = uy.1;
        up_z = uz.0;
        up_z_is = uz.1;
        line_x = ex.0;
        line_x_is = ex.1;
        line_y = ey.0;
        line_y_is = ey.1;
        line_z = ez.0;
        line_z_is = ez.1;
        sine = se.0;
        sine_is = se.1;
        factor_is = mp.1;
      },
    )
