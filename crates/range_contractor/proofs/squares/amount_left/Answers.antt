use Rattle.std.proofs.Common.{ℕ, arith, ap, ◌∙◌}
use Rattle.std.specs.Prelude.{pos}
use Rattle.std.proofs.lemmas.Int.{ints}
use Rattle.grid_model.specs.Roots.{root}
use Rattle.grid_model.specs.Rounding.{grain_floor, grain_ceil}
use Rattle.range_contractor.specs.Squares.{AreAmounts}
use Rattle.range_contractor.proofs.AmountLemmas.{is_amount}
use Rattle.range_contractor.proofs.squares.amount_left.Goals as goal

pub ends_of-requires : goal.ends_of-requires
ends_of-requires g c =
    let I = g.I.Interval in
    let are : AreAmounts I.GRAIN (I.area_low c.args.ranges) (I.area_high c.args.ranges) (I.area_low c.args.others) (I.area_high c.args.others) (record { lo = I.low c.root.result; hi = I.high c.root.result }) =
    record {
      some = c.in-Some.ensures.0;
      low_is = c.root.ensures.low ∙ ap (λ (n : ℕ). grain_floor I.GRAIN (pos (root n))) c.in-Some.ensures.1;
      high_is = c.root.ensures.high ∙ ap (λ (n : ℕ). grain_ceil I.GRAIN (pos (root n))) c.in-Some.ensures.2;
    } in
    let s = is_amount I.GRAIN (record { lo = I.low c.root.result; hi = I.high c.root.result }) (I.area_low c.args.ranges) (I.area_high c.args.ranges) (I.area_low c.args.others) (I.area_high c.args.others) g.met.I.Interval.grain_low g.met.I.Interval.grain_high (g.met.I.Interval.area_ordered c.args.ranges) (omega (arith, c.requires)) are
    (record { low = g.met.I.Interval.whole_low c.root.result; high = g.met.I.Interval.whole_high c.root.result }) in
    record {
      low = record { low = omega (arith, ints, s.low_size.low); high = omega (arith, ints, s.low_size.high) };
      high = record { low = omega (arith, ints, s.high_size.low); high = omega (arith, ints, s.high_size.high) };
    }

pub returns-in-Some-clause-some : goal.returns-in-Some-clause-some
returns-in-Some-clause-some g c =
    let I = g.I.Interval in
    let are : AreAmounts I.GRAIN (I.area_low c.args.ranges) (I.area_high c.args.ranges) (I.area_low c.args.others) (I.area_high c.args.others) (record { lo = I.low c.root.result; hi = I.high c.root.result }) =
    record {
      some = c.in-Some.ensures.0;
      low_is = c.root.ensures.low ∙ ap (λ (n : ℕ). grain_floor I.GRAIN (pos (root n))) c.in-Some.ensures.1;
      high_is = c.root.ensures.high ∙ ap (λ (n : ℕ). grain_ceil I.GRAIN (pos (root n))) c.in-Some.ensures.2;
    } in
    let s = is_amount I.GRAIN (record { lo = I.low c.root.result; hi = I.high c.root.result }) (I.area_low c.args.ranges) (I.area_high c.args.ranges) (I.area_low c.args.others) (I.area_high c.args.others) g.met.I.Interval.grain_low g.met.I.Interval.grain_high (g.met.I.Interval.area_ordered c.args.ranges) (omega (arith, c.requires)) are
    (record { low = g.met.I.Interval.whole_low c.root.result; high = g.met.I.Interval.whole_high c.root.result }) in
    rw c.ends_of.ensures s
