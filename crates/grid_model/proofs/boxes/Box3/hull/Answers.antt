use Rattle.grid_model.specs.Boxes.{grid_box}
use Rattle.grid_model.proofs.HullLemmas.{lesser_sized, greater_sized, joined_ordered, first_inside, second_inside, joined_least}
use Rattle.grid_model.proofs.boxes.Box3.hull.Goals as goal

pub invariant_of-result : goal.invariant_of-result
invariant_of-result c =
    let a = c.args.self.now in let b = c.args.other.now in
    let lo = c.lesser.ensures in let hi = c.greater.ensures in
    let one = grid_box a in let other = grid_box b in
    record {
      x_ordered = rw (lo.x, hi.x) (joined_ordered one.x other.x a.x_ordered);
      y_ordered = rw (lo.y, hi.y) (joined_ordered one.y other.y a.y_ordered);
      z_ordered = rw (lo.z, hi.z) (joined_ordered one.z other.z a.z_ordered);
      lo_within = rw (lo.x, lo.y, lo.z) (
        lesser_sized a.lo.x b.lo.x a.lo_within.0 b.lo_within.0,
        lesser_sized a.lo.y b.lo.y a.lo_within.1 b.lo_within.1,
        lesser_sized a.lo.z b.lo.z a.lo_within.2 b.lo_within.2,
      );
      hi_within = rw (hi.x, hi.y, hi.z) (
        greater_sized a.hi.x b.hi.x a.hi_within.0 b.hi_within.0,
        greater_sized a.hi.y b.hi.y a.hi_within.1 b.hi_within.1,
        greater_sized a.hi.z b.hi.z a.hi_within.2 b.hi_within.2,
      );
    }

pub returns-clause-first : goal.returns-clause-first
returns-clause-first c =
    let lo = c.lesser.ensures in let hi = c.greater.ensures in
    rw (lo.x, lo.y, lo.z, hi.x, hi.y, hi.z)
    (first_inside (grid_box c.args.self.now) (grid_box c.args.other.now))

pub returns-clause-second : goal.returns-clause-second
returns-clause-second c =
    let lo = c.lesser.ensures in let hi = c.greater.ensures in
    rw (lo.x, lo.y, lo.z, hi.x, hi.y, hi.z)
    (second_inside (grid_box c.args.self.now) (grid_box c.args.other.now))

pub returns-clause-least : goal.returns-clause-least
returns-clause-least c = λ whole p q.
    let lo = c.lesser.ensures in let hi = c.greater.ensures in
    rw (lo.x, lo.y, lo.z, hi.x, hi.y, hi.z)
    (joined_least (grid_box c.args.self.now) (grid_box c.args.other.now) whole p q)
