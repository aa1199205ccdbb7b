use Rattle.std.proofs.Common.{◌≡◌, ℤ, to_z, of_z, w64, arith, ◌∙◌}
use Rattle.std.specs.Prelude.{pos, ◌≤ℤ◌}
use Rattle.std.proofs.lemmas.Int.{ints}
use Rattle.grid_model.proofs.IntervalLemmas.{le_z_trans}
use Rattle.moving_tube.specs.Reach.{longest_reach}
use Rattle.grid_model.proofs.PlainLemmas.{uncast_end}
use Rattle.moving_tube.proofs.roots.widened.Goals as goal

same_reach : (x : ℤ) → (pos 0 ≤ℤ x) × (x ≤ℤ pos longest_reach) → to_z w64 (of_z w64 x) ≡ x
same_reach x size = omega (arith, ints, size.0, size.1)

pub invariant_of-result : goal.invariant_of-result
invariant_of-result c =
    let a = c.args.part.now in
    let r = same_reach c.args.reach c.requires in
    let lx = rw (uncast_end a.lo.x a.lo_within.0, r) at c.less.ensures in
    let mx = rw (uncast_end a.hi.x a.hi_within.0, r) at c.more.ensures in
    let rx = uncast_end c.less.result lx.size in
    let sx = uncast_end c.more.result mx.size in
    let ly = rw (uncast_end a.lo.y a.lo_within.1, r) at c.less-2.ensures in
    let my = rw (uncast_end a.hi.y a.hi_within.1, r) at c.more-2.ensures in
    let ry = uncast_end c.less-2.result ly.size in
    let sy = uncast_end c.more-2.result my.size in
    let lz = rw (uncast_end a.lo.z a.lo_within.2, r) at c.less-3.ensures in
    let mz = rw (uncast_end a.hi.z a.hi_within.2, r) at c.more-3.ensures in
    let rz = uncast_end c.less-3.result lz.size in
    let sz = uncast_end c.more-3.result mz.size in
    record {
      x_ordered = rw (rx, sx) (le_z_trans _ _ _ lx.at_most (le_z_trans _ _ _ a.x_ordered mx.at_least));
      y_ordered = rw (ry, sy) (le_z_trans _ _ _ ly.at_most (le_z_trans _ _ _ a.y_ordered my.at_least));
      z_ordered = rw (rz, sz) (le_z_trans _ _ _ lz.at_most (le_z_trans _ _ _ a.z_ordered mz.at_least));
      lo_within = rw (rx, ry, rz) (lx.size, ly.size, lz.size);
      hi_within = rw (sx, sy, sz) (mx.size, my.size, mz.size);
    }

pub returns : goal.returns
returns c =
    let a = c.args.part.now in
    let r = same_reach c.args.reach c.requires in
    let lx = rw (uncast_end a.lo.x a.lo_within.0, r) at c.less.ensures in
    let mx = rw (uncast_end a.hi.x a.hi_within.0, r) at c.more.ensures in
    let rx = uncast_end c.less.result lx.size in
    let sx = uncast_end c.more.result mx.size in
    let ly = rw (uncast_end a.lo.y a.lo_within.1, r) at c.less-2.ensures in
    let my = rw (uncast_end a.hi.y a.hi_within.1, r) at c.more-2.ensures in
    let ry = uncast_end c.less-2.result ly.size in
    let sy = uncast_end c.more-2.result my.size in
    let lz = rw (uncast_end a.lo.z a.lo_within.2, r) at c.less-3.ensures in
    let mz = rw (uncast_end a.hi.z a.hi_within.2, r) at c.more-3.ensures in
    let rz = uncast_end c.less-3.result lz.size in
    let sz = uncast_end c.more-3.result mz.size in
    let low_x = rx ∙ lx.value in
    let high_x = sx ∙ mx.value in
    let low_y = ry ∙ ly.value in
    let high_y = sy ∙ my.value in
    let low_z = rz ∙ lz.value in
    let high_z = sz ∙ mz.value in
    λ i. record {
      x = record { lo = low_x i; hi = high_x i };
      y = record { lo = low_y i; hi = high_y i };
      z = record { lo = low_z i; hi = high_z i };
    }
