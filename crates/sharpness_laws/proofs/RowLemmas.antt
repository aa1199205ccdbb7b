-- How far the ends of a grown row's spans over a box are from those that the true values give.
use Rattle.std.proofs.Common.{◌≡◌, ℕ, zero, suc, ◌+◌, ◌*◌, ◌<◌, ◌≤◌, arith, true}
use Rattle.std.specs.Prelude.{ℤ, pos, ◌+ℤ◌, ◌-ℤ◌, ◌≤ℤ◌, unsigned_abs}
use Rattle.std.proofs.lemmas.Int.{ints, by_lt_z}
use Rattle.epoch_selection.specs.Searches.{Search}
use Rattle.rinex_obs.specs.declared.obs.ObsEpoch.{ObsEpoch}
use Rattle.rinex_obs.specs.declared.obs.SatObs.{SatObs}
use Rattle.grid_model.specs.Boxes.{Side, GridBox, side_at, box_holds, IsIn}
use Rattle.sat_model.specs.ClockSpans.{near_of, far_of, clock_ends, inner_ends}
use Rattle.sat_model.specs.Contractors.{LiesIn}
use Rattle.grid_model.specs.Ranges.{range_to}
use Rattle.grid_model.specs.Lengths.{spare_of}
use Rattle.grid_model.specs.SearchBoxes.{IsSearchBox}
use Rattle.gnss_model.specs.Delays.{err_spare_of}
use Rattle.grid_model.specs.declared.boxes.Pos.{Pos}
use Rattle.sat_model.specs.declared.rows.Row.{Row}
use Rattle.range_contractor.proofs.BoxLemmas.{along, holds_all}
use Rattle.sat_rows.specs.Chains.{Chain}
use Rattle.sat_rows.specs.Meanings.{Meaning, IsSound}
use Rattle.sat_rows.specs.OwnRows.{HoldsAllowed}
use Rattle.sat_rows.proofs.PartLemmas.{part_holds}
use Rattle.sharpness_laws.specs.Clear.{HoldsRange, IsNearlyConsistent, IsSafelyConsistent}
use Rattle.sharpness_laws.specs.UsableRows.{IsRowFor}
use Rattle.epoch_rows.specs.Grown.{IsGrownRow}
use Rattle.sharpness_laws.proofs.RootLemmas.{root_grown, far_axis, near_axis}

-- the first row holds what is allowed at the points of the box, each span at most w wide and those of
-- the ends of the error at most g, and the second is wider by w and g at both ends
pub record IsRowOver (Allows : Pos → Chain → Type 0) (w g : ℕ) (part : GridBox) (own row : Row) : Type 0 where
  pub spare : 2 ≤ w
  pub exists : (p : Pos) → box_holds part p ≡ true → (values : Chain) × Allows p values
  pub range_is : (p : Pos) (values : Chain) → Allows p values
      → values.range ≡ range_to values.x values.y values.z p
  pub holds : HoldsAllowed Allows part own
  pub x : (own.x.hi -ℤ own.x.lo) ≤ℤ pos w
  pub y : (own.y.hi -ℤ own.y.lo) ≤ℤ pos w
  pub z : (own.z.hi -ℤ own.z.lo) ≤ℤ pos w
  pub range : (own.range.hi -ℤ own.range.lo) ≤ℤ pos w
  pub low : (own.sure_lo -ℤ own.err.lo) ≤ℤ pos g
  pub high : (own.err.hi -ℤ own.sure_hi) ≤ℤ pos g
  pub grown : IsGrownRow (pos w) (pos g) own row

-- ---- far and near

-- what is allowed at a point of the box
pub record AllowedIn (Allows : Pos → Chain → Type 0) (part : GridBox) (Good : Chain → Type 0) : Type 0 where
  pub at : Pos
  pub inside : box_holds part at ≡ true
  pub values : Chain
  pub are : Allows at values
  pub good : Good values

holds_sides : (part : GridBox) (p : Pos) → IsIn part.x p.x → IsIn part.y p.y → IsIn part.z p.z
    → box_holds part p ≡ true
holds_sides part p x y z = holds_all part p (λ axis. side axis)
  where
    side : (axis : ℕ) → IsIn (side_at axis part) (along axis p)
    side zero = x
    side (suc zero) = y
    side (suc (suc n)) = z

module _ (Allows : Pos → Chain → Type 0) (w g : ℕ) (part : GridBox) (own row : Row) (lies : LiesIn part part) (over : IsRowOver Allows w g part own row) where
  -- somewhere in the box the true range is more than far less four spares
  far_less : AllowedIn Allows part (λ values. far_of row part < values.range + 4 * w)
  unfolding far_of range_to
  far_less =
      let x = far_axis own.x.lo own.x.hi w part.x own.x.ordered over.x (lies 0).ordered in
      let y = far_axis own.y.lo own.y.hi w part.y own.y.ordered over.y (lies 1).ordered in
      let z = far_axis own.z.lo own.z.hi w part.z own.z.ordered over.z (lies 2).ordered in
      let p : Pos = record { x = x.at; y = y.at; z = z.at } in
      let inside = holds_sides part p x.inside y.inside z.inside in
      let (v, are) = over.exists p inside in
      let h = over.holds p v inside are in
      let wide = over.grown in
      record {
        at = p;
        inside = inside;
        values = v;
        are = are;
        good = rw (over.range_is p v are, wide.x.low, wide.x.high, wide.y.low, wide.y.high, wide.z.low, wide.z.high)
            (root_grown w _ _ _ (unsigned_abs (v.x -ℤ p.x)) (unsigned_abs (v.y -ℤ p.y)) (unsigned_abs (v.z -ℤ p.z)) over.spare
            (x.good v.x h.x.from h.x.to) (y.good v.y h.y.from h.y.to) (z.good v.z h.z.from h.z.to));
      }

  -- somewhere it is less than near and four spares
  near_greater : AllowedIn Allows part (λ values. values.range < near_of row part + 4 * w)
  unfolding near_of range_to
  near_greater =
      let x = near_axis own.x.lo own.x.hi w part.x own.x.ordered over.x (lies 0).ordered in
      let y = near_axis own.y.lo own.y.hi w part.y own.y.ordered over.y (lies 1).ordered in
      let z = near_axis own.z.lo own.z.hi w part.z own.z.ordered over.z (lies 2).ordered in
      let p : Pos = record { x = x.at; y = y.at; z = z.at } in
      let inside = holds_sides part p x.inside y.inside z.inside in
      let (v, are) = over.exists p inside in
      let h = over.holds p v inside are in
      let wide = over.grown in
      record {
        at = p;
        inside = inside;
        values = v;
        are = are;
        good = rw (over.range_is p v are, wide.x.low, wide.x.high, wide.y.low, wide.y.high, wide.z.low, wide.z.high)
            (root_grown w (unsigned_abs (v.x -ℤ p.x)) (unsigned_abs (v.y -ℤ p.y)) (unsigned_abs (v.z -ℤ p.z)) _ _ _ over.spare
            (x.good v.x h.x.from h.x.to) (y.good v.y h.y.from h.y.to) (z.good v.z h.z.from h.z.to));
      }

-- ---- the spans of a row, for a margin of six w and two g or more

module _ (m : Meaning) (root : GridBox) (epoch : ObsEpoch) (part : GridBox) (margin : ℕ) (seen : SatObs) (w g : ℕ) (own row : Row)
    (lies : LiesIn part part) (over : IsRowOver (m.allows epoch.tag seen) w g part own row) (enough : 6 * w + 2 * g ≤ margin) where
  -- an offset in the clock span leaves the satellite nearly consistent
  pub nearly_consistent : (range : Side) (b : ℤ) → HoldsRange m root epoch part margin range seen
      → (clock_ends part row).0 ≤ℤ b → b ≤ℤ (clock_ends part row).1
      → IsNearlyConsistent m root epoch part margin range b seen
  nearly_consistent range b ranges from to =
      let f = far_less (m.allows epoch.tag seen) w g part own row lies over in
      let n = near_greater (m.allows epoch.tag seen) w g part own row lies over in
      let far = ranges.holds f.at f.values f.inside f.are in
      let near = ranges.holds n.at n.values n.inside n.are in
      let held = over.holds f.at f.values f.inside f.are in
      let c = f.values.corrected in
      let lo = f.values.lo in
      let hi = f.values.hi in
      let wide = over.grown.bounds in
      let low : (lo -ℤ pos (2 * g)) ≤ℤ row.err.lo = omega (arith, ints, wide.least_lo, over.low, held.lo.from, held.lo.to) in
      let high : row.err.hi ≤ℤ (hi +ℤ pos (2 * g)) = omega (arith, ints, wide.greatest_hi, over.high, held.hi.from, held.hi.to) in
      let least : row.err.lo ≤ℤ lo = omega (arith, ints, wide.least_lo, held.lo.from) in
      let greatest : hi ≤ℤ row.err.hi = omega (arith, ints, wide.greatest_hi, held.hi.to) in
      let far_is : far_of row part < f.values.range + 4 * w = f.good in
      let near_is : n.values.range < near_of row part + 4 * w = n.good in
      let above : (c -ℤ range.hi -ℤ b) ≤ℤ (hi +ℤ pos margin) = omega (arith, ints, over.grown.range.low, over.range, held.corrected.to) in
      let below : (lo -ℤ pos margin) ≤ℤ (c -ℤ range.lo -ℤ b) = omega (arith, ints, over.grown.range.high, over.range, held.corrected.from) in
      by_lt_z (hi +ℤ pos margin) (c -ℤ range.lo -ℤ b)
      (λ k. record {
        at = f.at;
        inside = f.inside;
        values = f.values;
        are = f.are;
        distance = c -ℤ b -ℤ (hi +ℤ pos margin);
        in_range = (omega (arith, ints), omega (arith, ints));
        within = record { from = omega (arith, ints, row.err.ordered); to = omega (arith, ints) };
      })
      (λ k. record { at = f.at; inside = f.inside; values = f.values; are = f.are; distance = range.lo; in_range = (omega (arith, ints), ranges.ordered); within = record { from = below; to = k } })

  -- an offset at which the satellite is safely consistent lies in the inner span
  pub safely_inner : (b : ℤ) → IsSafelyConsistent m root epoch part margin b seen
      → ((inner_ends part row).0 ≤ℤ b) × (b ≤ℤ (inner_ends part row).1)
  safely_inner b safe =
      let f = far_less (m.allows epoch.tag seen) w g part own row lies over in
      let n = near_greater (m.allows epoch.tag seen) w g part own row lies over in
      let far = safe f.at f.values f.inside f.are in
      let near = safe n.at n.values n.inside n.are in
      let far_held = over.holds f.at f.values f.inside f.are in
      let near_held = over.holds n.at n.values n.inside n.are in
      let wide = over.grown.bounds in
      let high : (n.values.hi -ℤ pos (2 * g)) ≤ℤ row.sure_hi = omega (arith, ints, wide.least_hi, over.high, near_held.hi.from, near_held.hi.to) in
      let low : row.sure_lo ≤ℤ (f.values.lo +ℤ pos (2 * g)) = omega (arith, ints, wide.greatest_lo, over.low, far_held.lo.from, far_held.lo.to) in
      let far_is : far_of row part < f.values.range + 4 * w = f.good in
      let near_is : n.values.range < near_of row part + 4 * w = n.good in (
        omega (arith, ints, over.grown.range.high, over.range, near.to, far.to, far_held.corrected.from, near_held.corrected.from, far_held.corrected.to, near_held.corrected.to),
        omega (arith, ints, over.grown.range.low, over.range, near.from, far.from, far_held.corrected.from, near_held.corrected.from, far_held.corrected.to, near_held.corrected.to),
      )

-- ---- the rows in use

-- over a part of the box of the rows in use
pub row_over : (m : Meaning) (sound : IsSound m) (search : Search) (box : IsSearchBox search.root) (used part : GridBox) (seen : SatObs) (row : Row)
    → LiesIn part search.root → LiesIn part used
    → (is : IsRowFor m search used seen row)
    → IsRowOver (m.allows search.epoch.tag seen) (spare_of used) (err_spare_of used m.delays) part is.own row
row_over m sound search box used part seen row in_root in_used is = record {
  spare = omega arith;
  exists = λ p inside. sound.allowed_exists search.root search.epoch.tag seen p box (part_holds part search.root p in_root inside) is.usable;
  range_is = sound.range_is search.epoch.tag seen;
  holds = λ p values inside allowed. is.is_own.holds p values (part_holds part used p in_used inside) allowed;
  x = is.is_own.x;
  y = is.is_own.y;
  z = is.is_own.z;
  range = is.is_own.range;
  low = is.is_own.bounds.low;
  high = is.is_own.bounds.high;
  grown = is.grown;
}
