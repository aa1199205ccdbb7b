use Rattle.std.proofs.Common.{rules, ◌≡◌, FitsSigned}
use Rattle.std.specs.Int.{w64}
use Rattle.std.specs.Prelude.{◌+ℤ◌, ◌-ℤ◌}
use Rattle.std.proofs.lemmas.Int.{to_z-of_z}
use Rattle.sat_model.specs.Fitting.{low_bounds, high_bounds}
use Rattle.sat_rows.proofs.SpanLemmas.{grown_within, grown_lo, grown_hi, side_place, err_ordered}
use Rattle.sat_rows.proofs.growth.grown.Goals as goal

pub wider-low-requires-clause-low_size : goal.wider-low-requires-clause-low_size
wider-low-requires-clause-low_size c =
    let by : FitsSigned w64 c.args.err_by = c.ranges.err_by in
    let b = c.requires.bounds in
    simp to_z-of_z (side_place c.args.err_by (low_bounds c.args.row.now) c.low_bounds.result c.low_bounds.ensures b.least_lo b.greatest_lo).0

pub wider-low-requires-clause-high_size : goal.wider-low-requires-clause-high_size
wider-low-requires-clause-high_size c =
    let by : FitsSigned w64 c.args.err_by = c.ranges.err_by in
    let b = c.requires.bounds in
    simp to_z-of_z (side_place c.args.err_by (low_bounds c.args.row.now) c.low_bounds.result c.low_bounds.ensures b.least_lo b.greatest_lo).1

pub wider-high-requires-clause-low_size : goal.wider-high-requires-clause-low_size
wider-high-requires-clause-low_size c =
    let by : FitsSigned w64 c.args.err_by = c.ranges.err_by in
    let b = c.requires.bounds in
    simp to_z-of_z (side_place c.args.err_by (high_bounds c.args.row.now) c.high_bounds.result c.high_bounds.ensures b.least_hi b.greatest_hi).0

pub wider-high-requires-clause-high_size : goal.wider-high-requires-clause-high_size
wider-high-requires-clause-high_size c =
    let by : FitsSigned w64 c.args.err_by = c.ranges.err_by in
    let b = c.requires.bounds in
    simp to_z-of_z (side_place c.args.err_by (high_bounds c.args.row.now) c.high_bounds.result c.high_bounds.ensures b.least_hi b.greatest_hi).1

pub invariant_of-result : goal.invariant_of-result
invariant_of-result c =
    let by : FitsSigned w64 c.args.err_by = c.ranges.err_by in
    let low : FitsSigned w64 c.wider-low.result.lo = search rules in
    let high : FitsSigned w64 c.wider-high.result.hi = search rules in
    let row = c.args.row.now in
    let lo = grown_lo c.args.err_by (low_bounds row) c.low_bounds.result c.wider-low.result c.low_bounds.ensures (simp to_z-of_z at c.wider-low.ensures.low) in
    let hi = grown_hi c.args.err_by (high_bounds row) c.high_bounds.result c.wider-high.result c.high_bounds.ensures (simp to_z-of_z at c.wider-high.ensures.high) in
    record { ordered = simp to_z-of_z (err_ordered row c.args.err_by c.wider-low.result.lo c.wider-high.result.hi c.requires.err_by lo hi) }

pub invariant_of-result-2 : goal.invariant_of-result-2
invariant_of-result-2 c =
    let row = c.args.row.now in
    let by : FitsSigned w64 c.args.by = c.ranges.by in
    let err_by : FitsSigned w64 c.args.err_by = c.ranges.err_by in
    let fits : FitsSigned w64 c.wider-low.result.lo = search rules in
    let fits_2 : FitsSigned w64 c.wider-low.result.hi = search rules in
    let fits_3 : FitsSigned w64 c.wider-high.result.lo = search rules in
    let fits_4 : FitsSigned w64 c.wider-high.result.hi = search rules in
    let b = c.requires.bounds in
    let least_lo = grown_lo c.args.err_by (low_bounds row) c.low_bounds.result c.wider-low.result c.low_bounds.ensures (simp to_z-of_z at c.wider-low.ensures.low) in
    let greatest_lo = grown_hi c.args.err_by (low_bounds row) c.low_bounds.result c.wider-low.result c.low_bounds.ensures (simp to_z-of_z at c.wider-low.ensures.high) in
    let least_hi = grown_lo c.args.err_by (high_bounds row) c.high_bounds.result c.wider-high.result c.high_bounds.ensures (simp to_z-of_z at c.wider-high.ensures.low) in
    let greatest_hi = grown_hi c.args.err_by (high_bounds row) c.high_bounds.result c.wider-high.result c.high_bounds.ensures (simp to_z-of_z at c.wider-high.ensures.high) in
    record {
      x_within = grown_within c.args.by row.x c.wider.result c.requires.x (simp to_z-of_z at c.wider.ensures.low) (simp to_z-of_z at c.wider.ensures.high);
      y_within = grown_within c.args.by row.y c.wider-2.result c.requires.y (simp to_z-of_z at c.wider-2.ensures.low) (simp to_z-of_z at c.wider-2.ensures.high);
      z_within = grown_within c.args.by row.z c.wider-3.result c.requires.z (simp to_z-of_z at c.wider-3.ensures.low) (simp to_z-of_z at c.wider-3.ensures.high);
      range_within = grown_within c.args.by row.range c.wider-4.result c.requires.range (simp to_z-of_z at c.wider-4.ensures.low) (simp to_z-of_z at c.wider-4.ensures.high);
      err_within = simp to_z-of_z (rw least_lo b.least_lo, rw greatest_hi b.greatest_hi);
      sure_within = simp to_z-of_z (rw greatest_lo b.greatest_lo, rw least_hi b.least_hi);
      low_ordered = simp to_z-of_z c.wider-low.result.ordered;
      high_ordered = simp to_z-of_z c.wider-high.result.ordered;
    }

pub returns-clause-x : goal.returns-clause-x
returns-clause-x c =
    let by : FitsSigned w64 c.args.by = c.ranges.by in
    record { low = simp to_z-of_z at c.wider.ensures.low; high = simp to_z-of_z at c.wider.ensures.high }

pub returns-clause-y : goal.returns-clause-y
returns-clause-y c =
    let by : FitsSigned w64 c.args.by = c.ranges.by in
    record { low = simp to_z-of_z at c.wider-2.ensures.low; high = simp to_z-of_z at c.wider-2.ensures.high }

pub returns-clause-z : goal.returns-clause-z
returns-clause-z c =
    let by : FitsSigned w64 c.args.by = c.ranges.by in
    record { low = simp to_z-of_z at c.wider-3.ensures.low; high = simp to_z-of_z at c.wider-3.ensures.high }

pub returns-clause-range : goal.returns-clause-range
returns-clause-range c =
    let by : FitsSigned w64 c.args.by = c.ranges.by in
    record { low = simp to_z-of_z at c.wider-4.ensures.low; high = simp to_z-of_z at c.wider-4.ensures.high }

pub returns-clause-bounds : goal.returns-clause-bounds
returns-clause-bounds c =
    let row = c.args.row.now in
    let err_by : FitsSigned w64 c.args.err_by = c.ranges.err_by in
    let fits : FitsSigned w64 c.wider-low.result.lo = search rules in
    let fits_2 : FitsSigned w64 c.wider-low.result.hi = search rules in
    let fits_3 : FitsSigned w64 c.wider-high.result.lo = search rules in
    let fits_4 : FitsSigned w64 c.wider-high.result.hi = search rules in
    let least_lo : c.wider-low.result.lo ≡ row.err.lo -ℤ c.args.err_by = grown_lo c.args.err_by (low_bounds row) c.low_bounds.result c.wider-low.result c.low_bounds.ensures (simp to_z-of_z at c.wider-low.ensures.low) in
    let greatest_lo : c.wider-low.result.hi ≡ row.sure_lo +ℤ c.args.err_by = grown_hi c.args.err_by (low_bounds row) c.low_bounds.result c.wider-low.result c.low_bounds.ensures (simp to_z-of_z at c.wider-low.ensures.high) in
    let least_hi : c.wider-high.result.lo ≡ row.sure_hi -ℤ c.args.err_by = grown_lo c.args.err_by (high_bounds row) c.high_bounds.result c.wider-high.result c.high_bounds.ensures (simp to_z-of_z at c.wider-high.ensures.low) in
    let greatest_hi : c.wider-high.result.hi ≡ row.err.hi +ℤ c.args.err_by = grown_hi c.args.err_by (high_bounds row) c.high_bounds.result c.wider-high.result c.high_bounds.ensures (simp to_z-of_z at c.wider-high.ensures.high) in
    record { least_lo = simp to_z-of_z least_lo; greatest_lo = simp to_z-of_z greatest_lo; least_hi = simp to_z-of_z least_hi; greatest_hi = simp to_z-of_z greatest_hi }
