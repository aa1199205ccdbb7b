-- Parts of a search box: they are search boxes, W and G of a part are at most those of the whole,
-- and a row of a base over a part is an own row for the part.
use Rattle.std.proofs.Common.{◌≡◌, ℕ, ◌≤◌, arith, max, subst, Bool, true, false, Option, None, Some}
use Rattle.std.specs.Prelude.{ℤ, ◌≤ℤ◌}
use Rattle.std.proofs.lemmas.Int.{ints}
use Rattle.std.proofs.lemmas.Nat.{mul-le}
use Rattle.rinex_obs.specs.declared.obs.SatObs.{SatObs}
use Rattle.grid_model.specs.Boxes.{Side, GridBox, side_holds, box_holds}
use Rattle.grid_model.specs.Lengths.{side_length, longest_length, spare_of}
use Rattle.grid_model.specs.SearchBoxes.{IsSearchSide, IsSearchBox}
use Rattle.grid_model.specs.declared.boxes.Pos.{Pos}
use Rattle.grid_model.specs.declared.spans.Span.{Span}
use Rattle.grid_model.proofs.AmountLemmas.{above_is}
use Rattle.std.proofs.lemmas.Bool.{and_from as both_from}
use Rattle.grid_model.proofs.PointLemmas.{in_box, le_to}
use Rattle.gnss_model.specs.Delays.{is_plain, span_amount, spare_over, delay_spare, err_spare_of}
use Rattle.gnss_model.specs.declared.delays.Delays.{Delays}
use Rattle.gnss_model.specs.declared.delays.Layer.{Layer}
use Rattle.gnss_model.specs.declared.delays.Layer.TheVariants.{Troposphere, Ionosphere}
use Rattle.sat_model.specs.Contractors.{SideLiesIn, LiesIn}
use Rattle.sat_model.specs.declared.rows.Row.{Row}
use Rattle.sat_rows.specs.Bases.{IsBaseOf, IsRowOfBase}
use Rattle.sat_rows.specs.Meanings.{Meaning}
use Rattle.sat_rows.specs.OwnRows.{HasBounds, IsOwnRow}
use Rattle.sat_rows.specs.declared.bases.Base.{Base}
use Rattle.usable_sats.specs.Usability.{IsHighIf, IsHigh}

-- ---- boxes

side_whole : (a s : Side) (n : ℤ) → SideLiesIn a s → (a.lo ≤ℤ n) × (n ≤ℤ a.hi)
    → side_holds s n ≡ true
side_whole a s n i (l, h) = both_from _ _ (le_to s.lo n (omega (arith, ints, i.low, l))) (le_to n s.hi (omega (arith, ints, i.high, h)))

-- a point of a part is one of the whole
pub part_holds : (part root : GridBox) (p : Pos) → LiesIn part root → box_holds part p ≡ true
    → box_holds root p ≡ true
part_holds part root p lies inside =
    let i = in_box part p inside in
    both_from _ _ (side_whole part.x root.x p.x (lies 0) i.x) (both_from _ _ (side_whole part.y root.y p.y (lies 1) i.y) (side_whole part.z root.z p.z (lies 2) i.z))

side_shorter : (a s : Side) → SideLiesIn a s → side_length a ≤ side_length s
side_shorter a s i = omega (arith, ints, i.low, i.ordered, i.high, above_is a.hi a.lo, above_is s.hi s.lo)

max_three : (a b c d e f : ℕ) → a ≤ d → b ≤ e → c ≤ f → max a (max b c) ≤ max d (max e f)
max_three a b c d e f h k l = omega arith

pub shorter : (part root : GridBox) → LiesIn part root → longest_length part ≤ longest_length root
shorter part root lies = max_three _ _ _ _ _ _ (side_shorter part.x root.x (lies 0)) (side_shorter part.y root.y (lies 1)) (side_shorter part.z root.z (lies 2))

part_side : (a s : Side) → SideLiesIn a s → IsSearchSide s → IsSearchSide a
part_side a s i b = record {
  low = record { low = omega (arith, ints, i.low, i.ordered, i.high, b.low.low); high = omega (arith, ints, i.low, i.ordered, i.high, b.high.high) };
  high = record { low = omega (arith, ints, i.low, i.ordered, i.high, b.low.low); high = omega (arith, ints, i.low, i.ordered, i.high, b.high.high) };
}

-- a part of a search box is one
pub part_search : (part root : GridBox) → LiesIn part root → IsSearchBox root → IsSearchBox part
part_search part root lies b = record {
  x = part_side part.x root.x (lies 0) b.x;
  y = part_side part.y root.y (lies 1) b.y;
  z = part_side part.z root.z (lies 2) b.z;
  short = omega (arith, shorter part root lies, b.short);
}

high_if : (plain : Bool) (part root : GridBox) → LiesIn part root → IsHighIf plain root
    → IsHighIf plain part
high_if true part root lies high = tt
high_if false part root lies high = λ p inside. high p (part_holds part root p lies inside)

-- ... and is as high
pub part_high : (delays : Delays) (part root : GridBox) → LiesIn part root → IsHigh delays root
    → IsHigh delays part
part_high delays part root lies high = high_if (is_plain delays) part root lies high

-- ---- W and G

-- W of a part is at most that of the whole
pub spare_mono : (part root : GridBox) → LiesIn part root → spare_of part ≤ spare_of root
spare_mono part root lies = let h = shorter part root lies in omega (arith, h)

over_mono : (layer : Layer) (amount d e : ℕ) → d ≤ e
    → spare_over layer amount d ≤ spare_over layer amount e
over_mono Troposphere amount d e h = let m = mul-le amount d amount e (omega arith) h in omega (arith, m)
over_mono Ionosphere amount d e h = let m = mul-le amount d amount e (omega arith) h in omega (arith, m)

delay_mono : (layer : Layer) (delay : Option Span) (part root : GridBox) → LiesIn part root
    → delay_spare layer part delay ≤ delay_spare layer root delay
delay_mono layer None part root lies = omega arith
delay_mono layer (Some s) part root lies = over_mono layer (span_amount s) (longest_length part) (longest_length root) (shorter part root lies)

-- and so is G
pub err_spare_mono : (delays : Delays) (part root : GridBox) → LiesIn part root
    → err_spare_of part delays ≤ err_spare_of root delays
err_spare_mono delays part root lies = omega (arith, delay_mono Troposphere delays.zenith part root lies, delay_mono Ionosphere delays.vertical part root lies)

-- ---- own rows

module _ (m : Meaning) (root : GridBox) (tag : ℤ) (seen : SatObs) (base : Base) (part : GridBox) (row : Row) where
  -- the row of a base over a box whose points its search box holds is an own row for that box
  pub own_of_points : IsBaseOf m root tag seen base
      → ((p : Pos) → box_holds part p ≡ true → box_holds root p ≡ true)
      → IsRowOfBase m.delays base part row → IsOwnRow m part tag seen row
  own_of_points is inside over = record {
    holds = λ p c here allowed. over.holds p c here (is.comes p c (inside p here) allowed);
    x = over.x;
    y = over.y;
    z = over.z;
    range = over.range;
    bounds = over.bounds;
    plain = λ none. subst (HasBounds row) is.declared (over.plain none);
  }

  -- ... and so over a part of it
  pub own_of_base : IsBaseOf m root tag seen base → LiesIn part root → IsRowOfBase m.delays base part row → IsOwnRow m part tag seen row
  own_of_base is lies over = own_of_points is (λ p. part_holds part root p lies) over
