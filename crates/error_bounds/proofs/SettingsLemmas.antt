-- What is taken from settings.
use Rattle.std.proofs.Common.{◌≡◌, ◌*◌, ◌^◌, ◌≤◌, ℤ, ◌+ℤ◌, ◌-ℤ◌, arith}
use Rattle.std.proofs.lemmas.Int.{ints}
use Rattle.grid_model.specs.Boxes.{GridBox, Side}
use Rattle.grid_model.specs.Lengths.{side_length}
use Rattle.grid_model.specs.SearchBoxes.{IsSearchSide, IsSearchBox}
use Rattle.grid_model.specs.Sizes.{IsWithin}
use Rattle.grid_model.specs.declared.boxes.Pos.{Pos}
use Rattle.grid_model.proofs.AmountLemmas.{above_is}
use Rattle.error_bounds.specs.Reading.{box_around}
use Rattle.error_bounds.specs.Sizes.{IsNearEarth, IsHalfSide, AreHalfSides}

pub same_box : (a b c d e f a' b' c' d' e' f' : ℤ) → a ≡ a' → b ≡ b' → c ≡ c' → d ≡ d' → e ≡ e'
    → f ≡ f'
    → ◌≡◌ {A = GridBox} (record { x = record { lo = a; hi = b }; y = record { lo = c; hi = d }; z = record { lo = e; hi = f } })
    (record { x = record { lo = a'; hi = b' }; y = record { lo = c'; hi = d' }; z = record { lo = e'; hi = f' } })
same_box a b c d e f a' b' c' d' e' f' ha hb hc hd he hf = cc

-- ---- the box around a centre is one to search in

abbrev around : ℤ → ℤ → Side
around c h = record { lo = c -ℤ h; hi = c +ℤ h }

searched : (c h : ℤ) → IsWithin 8500000000000 c → IsHalfSide h → IsSearchSide (around c h)
searched c h near half = record {
  low = record { low = omega (arith, ints, near.low, half.high); high = omega (arith, ints, near.high, half.low) };
  high = record { low = omega (arith, ints, near.low, half.low); high = omega (arith, ints, near.high, half.high) };
}

short : (c h : ℤ) → IsHalfSide h → side_length (around c h) ≤ 2 * 10 ^ 11
short c h half = omega (arith, ints, half.high, above_is (c +ℤ h) (c -ℤ h))

pub box_searched : (p half : Pos) → IsNearEarth p → AreHalfSides half
    → IsSearchBox (box_around p half)
box_searched p half near sides = record {
  x = searched p.x half.x near.x sides.x;
  y = searched p.y half.y near.y sides.y;
  z = searched p.z half.z near.z sides.z;
  short = omega (arith, short p.x half.x sides.x, short p.y half.y sides.y, short p.z half.z sides.z);
}
