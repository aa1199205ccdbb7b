use Rattle.std.proofs.Common.{arith, ◌≡◌, rules, FitsSigned}
use Rattle.std.specs.Prelude.{ℤ, ◌*ℤ◌, ◌≤ℤ◌}
use Rattle.std.specs.Int.{w128, int_div_euclid}
use Rattle.std.proofs.lemmas.Int.{ints, to_z-of_z}
use Rattle.grid_model.specs.Products.{least_product, greatest_product}
use Rattle.grid_model.specs.Intervals.{Between}
use Rattle.grid_model.specs.Rounding.{IsFloor}
use Rattle.grid_model.proofs.IntervalLemmas.{le_z_trans, low_member}
use Rattle.grid_model.proofs.RoundingLemmas.{floor_is}
use Rattle.grid_model.proofs.SpreadLemmas.{least_le_product, product_le_greatest, least_le_greatest, least_multiple, greatest_multiple}
use Rattle.fix_interval.proofs.exact.Exact.over.Goals as goal

pub returns-clause-holds : goal.returns-clause-holds
returns-clause-holds c a b v p q n =
    let m : Between c.args.num c.args.num c.args.num = record { from = omega (arith, ints); to = omega (arith, ints) } in
    let k : least_product c.args.self.lo c.args.self.hi c.args.num c.args.num ≤ℤ (a *ℤ c.args.num) = least_le_product _ _ _ _ a c.args.num p m in
    let l : (a *ℤ c.args.num) ≤ℤ greatest_product c.args.self.lo c.args.self.hi c.args.num c.args.num = product_le_greatest _ _ _ _ a c.args.num p m in
    let f : FitsSigned w128 c.args.num = c.ranges.num in
    let g : FitsSigned w128 c.least_of_products-least.result = search rules in
    let g' : FitsSigned w128 c.greatest_of_products-greatest.result = search rules in
    let i : FitsSigned w128 c.low_end_over-lo.result = search rules in
    let j : FitsSigned w128 c.high_end_over-hi.result = search rules in
    let e : c.least_of_products-least.result ≡ least_product c.args.self.lo c.args.self.hi c.args.num c.args.num = grind (arith, to_z-of_z) in
    let e' : c.greatest_of_products-greatest.result ≡ greatest_product c.args.self.lo c.args.self.hi c.args.num c.args.num = grind (arith, to_z-of_z) in
    let h = simp to_z-of_z at c.low_end_over-lo.ensures.holds b v q in
    let h' = simp to_z-of_z at c.high_end_over-hi.ensures.holds b v q in
    record { from = simp to_z-of_z (h (rw e (omega (arith, ints)))); to = simp to_z-of_z (h' (rw e' (omega (arith, ints)))) }

carry_low : (a l r z : ℤ) → a ≡ l → r ≡ l → r ≤ℤ z → a ≤ℤ z
carry_low a l r z e f h = omega (arith, ints)

carry_high : (a l r z : ℤ) → a ≡ l → r ≡ l → z ≤ℤ r → z ≤ℤ a
carry_high a l r z e f h = omega (arith, ints)

pub returns-clause-tight : goal.returns-clause-tight
returns-clause-tight c =
    let f : FitsSigned w128 c.args.num = c.ranges.num in
    let g : FitsSigned w128 c.least_of_products-least.result = search rules in
    let g' : FitsSigned w128 c.greatest_of_products-greatest.result = search rules in
    let i : FitsSigned w128 c.low_end_over-lo.result = search rules in
    let j : FitsSigned w128 c.high_end_over-hi.result = search rules in
    let e : c.least_of_products-least.result ≡ least_product c.args.self.lo c.args.self.hi c.args.num c.args.num = grind (arith, to_z-of_z) in
    let e' : c.greatest_of_products-greatest.result ≡ greatest_product c.args.self.lo c.args.self.hi c.args.num c.args.num = grind (arith, to_z-of_z) in
    let x = least_multiple c.args.self.lo c.args.self.hi c.args.num c.args.self.ordered in
    let y = greatest_multiple c.args.self.lo c.args.self.hi c.args.num c.args.self.ordered in
    let s = simp to_z-of_z at c.low_end_over-lo.ensures.tight in
    let t = simp to_z-of_z at c.high_end_over-hi.ensures.tight in
    record {
      low_num = x.of;
      low_den = s.0;
      high_num = y.of;
      high_den = t.0;
      low_num_is = x.member;
      low_den_is = s.1;
      high_num_is = y.member;
      high_den_is = t.1;
      tight = simp to_z-of_z (record { low = carry_low _ _ _ _ x.is e s.2; high = carry_high _ _ _ _ y.is e' t.2 });
    }

pub invariant_of-result : goal.invariant_of-result
invariant_of-result c =
    let f : FitsSigned w128 c.args.num = c.ranges.num in
    let g : FitsSigned w128 c.least_of_products-least.result = search rules in
    let g' : FitsSigned w128 c.greatest_of_products-greatest.result = search rules in
    let i : FitsSigned w128 c.low_end_over-lo.result = search rules in
    let j : FitsSigned w128 c.high_end_over-hi.result = search rules in
    let e : c.least_of_products-least.result ≡ least_product c.args.self.lo c.args.self.hi c.args.num c.args.num = grind (arith, to_z-of_z) in
    let e' : c.greatest_of_products-greatest.result ≡ greatest_product c.args.self.lo c.args.self.hi c.args.num c.args.num = grind (arith, to_z-of_z) in
    let l : least_product c.args.self.lo c.args.self.hi c.args.num c.args.num ≤ℤ greatest_product c.args.self.lo c.args.self.hi c.args.num c.args.num = least_le_greatest c.args.self.lo c.args.self.hi c.args.num c.args.num in
    let v = int_div_euclid c.least_of_products-least.result c.args.other.lo in
    let q : IsFloor c.least_of_products-least.result c.args.other.lo v = floor_is c.least_of_products-least.result c.args.other.lo c.requires.positive in
    let m = low_member c.args.other.lo c.args.other.hi c.args.other.ordered in
    let h = simp to_z-of_z at c.low_end_over-lo.ensures.holds c.args.other.lo v m in
    let h' = simp to_z-of_z at c.high_end_over-hi.ensures.holds c.args.other.lo v m in
    let a : c.low_end_over-lo.result ≤ℤ v = h (omega (arith, ints)) in
    let b : v ≤ℤ c.high_end_over-hi.result = h' (omega (arith, ints)) in
    record { ordered = simp to_z-of_z (le_z_trans _ _ _ a b) }
