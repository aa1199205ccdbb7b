-- How wide a row over a root may be.
use Rattle.std.proofs.Common.{ℕ, ◌*◌, ◌^◌, ◌≤◌, refl, arith}
use Rattle.std.specs.Prelude.{ℤ, ◌≤ℤ◌, Option, None, Some}
use Rattle.std.proofs.lemmas.Nat.{mul-le}
use Rattle.std.proofs.lemmas.Int.{ints}
use Rattle.epoch_rows.specs.Grown.{greatest_spare, greatest_err_spare}
use Rattle.grid_model.specs.Amounts.{above}
use Rattle.grid_model.specs.Boxes.{grid_box}
use Rattle.grid_model.specs.Lengths.{longest_length, spare_of}
use Rattle.grid_model.specs.Sizes.{IsBoxSize}
use Rattle.gnss_model.specs.Delays.{IsDelayWithin, AreDelays, span_amount, spare_over, delay_spare, err_spare_of}
use Rattle.grid_model.specs.declared.boxes.Box3.{Box3}
use Rattle.gnss_model.specs.declared.delays.Delays.{Delays}
use Rattle.gnss_model.specs.declared.delays.Layer.{Layer}
use Rattle.gnss_model.specs.declared.delays.Layer.TheVariants.{Troposphere, Ionosphere}
use Rattle.grid_model.specs.declared.spans.Span.{Span}
use Rattle.grid_model.proofs.AmountLemmas.{above_is}
use Rattle.grid_model.proofs.PlainLemmas.{amount_at_most}

side_le : (lo hi : ℤ) → lo ≤ℤ hi → IsBoxSize lo → IsBoxSize hi → above hi lo ≤ 20000000000000
side_le lo hi ordered low high = omega (arith, ints, above_is hi lo, low.low, high.high)

longest_le : (root : Box3) → longest_length (grid_box root) ≤ 20000000000000
longest_le root =
    let x = side_le root.lo.x root.hi.x root.x_ordered root.lo_within.0 root.hi_within.0 in
    let y = side_le root.lo.y root.hi.y root.y_ordered root.lo_within.1 root.hi_within.1 in
    let z = side_le root.lo.z root.hi.z root.z_ordered root.lo_within.2 root.hi_within.2 in
    omega (arith, x, y, z)

pub spare_le : (root : Box3) → spare_of (grid_box root) ≤ greatest_spare
spare_le root = omega (arith, longest_le root)

-- ---- the ends of the error

spread_le : (layer : Layer) (n amount d : ℕ) → amount ≤ n → d ≤ 2 * 10 ^ 13
    → spare_over layer amount d ≤ spare_over layer n (2 * 10 ^ 13)
spread_le Troposphere n amount d few short = let less = mul-le amount d n (2 * 10 ^ 13) few short in omega (arith, less)
spread_le Ionosphere n amount d few short = let less = mul-le amount d n (2 * 10 ^ 13) few short in omega (arith, less)

delay_spare_le : (layer : Layer) (n : ℕ) (root : Box3) (delay : Option Span) → IsDelayWithin n delay
    → delay_spare layer (grid_box root) delay ≤ spare_over layer n (2 * 10 ^ 13)
delay_spare_le layer n root None within = omega arith
delay_spare_le layer n root (Some s) within =
    spread_le layer n (span_amount s) (longest_length (grid_box root)) (omega (arith, amount_at_most n s.lo (within.low s refl), amount_at_most n s.hi (within.high s refl))) (longest_le root)

pub err_spare_le : (root : Box3) (delays : Delays) → AreDelays delays
    → err_spare_of (grid_box root) delays ≤ greatest_err_spare
err_spare_le root delays within =
    let zenith = delay_spare_le Troposphere (10 ^ 7) root delays.zenith within.zenith in
    let vertical = delay_spare_le Ionosphere (10 ^ 8) root delays.vertical within.vertical in
    omega (arith, zenith, vertical)
