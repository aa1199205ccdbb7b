-- At points that are high enough, and far enough from the place, the delays straight up are mapped.
use Rattle.std.proofs.Common.{◌≡◌, ℕ, ◌*◌, ◌^◌, ◌≤◌, ◌⊎◌, inl, inr, arith, refl, subst, sym, lit≤}
use Rattle.std.proofs.Common.{Option, None, Some, true, ◌&&◌}
use Rattle.std.specs.Prelude.{is_none, ℤ, pos, neg_ℤ, ◌+ℤ◌, ◌-ℤ◌, ◌*ℤ◌, ◌≤ℤ◌}
use Rattle.std.specs.Int.{int_div_euclid}
use Rattle.std.proofs.lemmas.Int.{ints, by_lt_z}
use Rattle.grid_model.specs.Amounts.{square}
use Rattle.grid_model.specs.Angles.{unit}
use Rattle.grid_model.specs.Boxes.{GridBox, box_holds}
use Rattle.grid_model.specs.SearchBoxes.{IsFarFromOrigin}
use Rattle.grid_model.specs.Ranges.{range_to}
use Rattle.gnss_model.specs.Mapping.{Mapping, IsMapped, IsMappedDelay}
use Rattle.grid_model.specs.Squares.{sum_of_squares}
use Rattle.grid_model.specs.declared.boxes.Pos.{Pos}
use Rattle.gnss_model.specs.Layers.{layer_scale}
use Rattle.gnss_model.specs.declared.delays.Delays.{Delays}
use Rattle.gnss_model.specs.declared.delays.Layer.{Layer}
use Rattle.gnss_model.specs.declared.delays.Layer.TheVariants.{Troposphere, Ionosphere}
use Rattle.grid_model.specs.declared.spans.Span.{Span}
use Rattle.grid_model.proofs.ProductLemmas.{mul_mono}
use Rattle.grid_model.proofs.RoundingLemmas.{floor_is, floor_near}
use Rattle.elevation_mapping.proofs.MappingExists.{mapping_exists}
use Rattle.sat_rows.specs.Chains.{IsDelay, IsBound}
use Rattle.usable_sats.specs.Usability.{IsHighIf, IsHigh}

-- ---- delays by one mapping

scale_some : (layer : Layer) → 1 ≤ layer_scale layer
scale_some Troposphere = lit≤ tt
scale_some Ionosphere = lit≤ tt

factor_positive : (layer : Layer) (slant : ℕ) (factor : ℤ) → IsMapped layer slant factor
    → pos 0 ≤ℤ factor
factor_positive layer slant factor near = by_lt_z factor (pos 0)
    (λ less.
    let m : (factor *ℤ pos (1000 * slant)) ≤ℤ (neg_ℤ (pos 1) *ℤ pos (1000 * slant)) =
    mul_mono factor (neg_ℤ (pos 1)) (pos (1000 * slant)) (omega (arith, ints))
    (omega (arith, ints)) in
    absurd (omega (arith, ints, m, near.above, scale_some layer)))
    (λ most. most)

floors_order : (a b : ℤ) → a ≤ℤ b
    → int_div_euclid a (pos unit) ≤ℤ int_div_euclid b (pos unit)
floors_order a b h =
    let p = floor_is a (pos unit) (record { lt = tt }) in
    let q = floor_is b (pos unit) (record { lt = tt }) in
    by_lt_z (int_div_euclid b (pos unit)) (int_div_euclid a (pos unit))
    (λ less.
    let next = int_div_euclid b (pos unit) +ℤ pos 1 in
    let m : (next *ℤ pos unit) ≤ℤ (int_div_euclid a (pos unit) *ℤ pos unit) =
    mul_mono next (int_div_euclid a (pos unit)) (pos unit) (omega (arith, ints))
    (record { le = tt }) in
    absurd (omega (arith, ints, m, p.le, q.gt, h)))
    (λ most. most)

-- seen from p, what both ends of a span straight up become by one mapping, the low end no more than
-- the high end
pub record AreMapped (layer : Layer) (upward : Span) (p : Pos) (x y z : ℤ) : Type 0 where
  pub factor : ℤ
  pub factor_is : Mapping layer p x y z (range_to x y z p) factor
  pub low : ℤ
  pub low_is : IsMappedDelay upward.lo factor low
  pub high : ℤ
  pub high_is : IsMappedDelay upward.hi factor high
  pub order : low ≤ℤ high

pub mapped_exist : (layer : Layer) (upward : Span) (p : Pos) (x y z : ℤ)
    → square (6 * 10 ^ 12) ≤ sum_of_squares p.x p.y p.z
    → square (5 * 10 ^ 12) ≤ sum_of_squares (x -ℤ p.x) (y -ℤ p.y) (z -ℤ p.z)
    → AreMapped layer upward p x y z
mapped_exist layer upward p x y z high far =
    let m = mapping_exists layer p x y z high far in
    record {
      factor = m.0;
      factor_is = m.1;
      low = int_div_euclid (upward.lo *ℤ m.0) (pos unit);
      low_is = floor_near _ _ _ (record { lt = tt })
          (floor_is (upward.lo *ℤ m.0) (pos unit) (record { lt = tt }));
      high = int_div_euclid (upward.hi *ℤ m.0) (pos unit);
      high_is = floor_near _ _ _ (record { lt = tt })
          (floor_is (upward.hi *ℤ m.0) (pos unit) (record { lt = tt }));
      order = floors_order _ _
          (mul_mono upward.lo upward.hi m.0 upward.ordered
          (factor_positive layer _ m.0 m.1.factor_is));
    }

-- ---- the ends of the error

-- where a delay is declared, the box is far enough from the origin
by_either : (a b : Option Span) (root : GridBox) → IsHighIf (is_none a && is_none b) root
    → (s : Span) → (a ≡ Some s) ⊎ (b ≡ Some s) → IsFarFromOrigin (6 * 10 ^ 12) root
by_either (Some a) b root high s e = high
by_either None (Some b) root high s e = high
by_either None None root high s (inl e) = absurd cc
by_either None None root high s (inr e) = absurd cc

pub high_zenith : (delays : Delays) (root : GridBox) → IsHigh delays root → (s : Span)
    → delays.zenith ≡ Some s → IsFarFromOrigin (6 * 10 ^ 12) root
high_zenith delays root high s e = by_either delays.zenith delays.vertical root high s (inl e)

pub high_vertical : (delays : Delays) (root : GridBox) → IsHigh delays root → (s : Span)
    → delays.vertical ≡ Some s → IsFarFromOrigin (6 * 10 ^ 12) root
high_vertical delays root high s e = by_either delays.zenith delays.vertical root high s (inr e)

-- whatever the ends of the error are
delay_exists : (layer : Layer) (upward : Option Span) (p : Pos) (x y z corrected : ℤ) (range : ℕ)
    → ((s : Span) → upward ≡ Some s → square (6 * 10 ^ 12) ≤ sum_of_squares p.x p.y p.z)
    → square (5 * 10 ^ 12) ≤ sum_of_squares (x -ℤ p.x) (y -ℤ p.y) (z -ℤ p.z)
    → range ≡ range_to x y z p
    → (delay : ℤ × ℤ) × ((lo hi : ℤ)
    → IsDelay layer upward p
    (record { x = x; y = y; z = z; corrected = corrected; range = range; lo = lo; hi = hi })
    delay)
delay_exists layer None p x y z corrected range high far range_is = ((pos 0, pos 0), λ lo hi. refl)
delay_exists layer (Some upward) p x y z corrected range high far range_is =
    let d = mapped_exist layer upward p x y z (high upward refl) far in (
      (d.low, d.high),
      λ lo hi. record {
        factor = d.factor;
        factor_is = subst (λ (r : ℕ). Mapping layer p x y z r d.factor) (sym range_is) d.factor_is;
        low = d.low_is;
        high = d.high_is;
      },
    )

pub bound_exists : (delays : Delays) (declared : ℤ × ℤ) (root : GridBox) (p : Pos)
    (x y z corrected : ℤ) (range : ℕ)
    → IsHigh delays root → box_holds root p ≡ true
    → square (5 * 10 ^ 12) ≤ sum_of_squares (x -ℤ p.x) (y -ℤ p.y) (z -ℤ p.z)
    → range ≡ range_to x y z p
    → (lo : ℤ) × (hi : ℤ)
    × IsBound delays declared p
    (record { x = x; y = y; z = z; corrected = corrected; range = range; lo = lo; hi = hi })
bound_exists delays declared root p x y z corrected range high inside far range_is =
    let zenith = delay_exists Troposphere delays.zenith p x y z corrected range
    (λ s e. high_zenith delays root high s e p inside) far range_is in
    let vertical = delay_exists Ionosphere delays.vertical p x y z corrected range
    (λ s e. high_vertical delays root high s e p inside) far range_is in
    let lo = (declared.0 +ℤ zenith.0.0) +ℤ vertical.0.0 in
    let hi = (declared.1 +ℤ zenith.0.1) +ℤ vertical.0.1 in (
      lo,
      hi,
      record {
        zenith = zenith.0;
        zenith_is = zenith.1 lo hi;
        vertical = vertical.0;
        vertical_is = vertical.1 lo hi;
        lo_is = refl;
        hi_is = refl;
      },
    )
