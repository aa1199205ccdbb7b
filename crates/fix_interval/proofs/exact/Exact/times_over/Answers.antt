use Rattle.std.proofs.Common.{arith, ◌≡◌, rules, FitsSigned}
use Rattle.std.specs.Prelude.{◌*ℤ◌, ◌≤ℤ◌}
use Rattle.std.specs.Int.{w128, int_div_euclid}
use Rattle.std.proofs.lemmas.Int.{ints, to_z-of_z}
use Rattle.grid_model.specs.Products.{least_product, greatest_product}
use Rattle.grid_model.specs.Rounding.{IsFloor, IsTightRound}
use Rattle.grid_model.proofs.IntervalLemmas.{le_z_trans}
use Rattle.grid_model.proofs.RoundingLemmas.{floor_is, tight_width}
use Rattle.grid_model.proofs.SpreadLemmas.{least_le_product, product_le_greatest, least_le_greatest}
use Rattle.fix_interval.proofs.exact.Exact.times_over.Goals as goal

pub returns-clause-holds : goal.returns-clause-holds
returns-clause-holds c a b v p q n =
    let k : least_product c.args.self.lo c.args.self.hi c.args.other.lo c.args.other.hi ≤ℤ (a *ℤ b) = least_le_product _ _ _ _ a b p q in
    let l : (a *ℤ b) ≤ℤ greatest_product c.args.self.lo c.args.self.hi c.args.other.lo c.args.other.hi = product_le_greatest _ _ _ _ a b p q in
    let f : FitsSigned w128 c.args.den = c.ranges.den in
    let g : FitsSigned w128 c.least_of_products-least.result = search rules in
    let g' : FitsSigned w128 c.greatest_of_products-greatest.result = search rules in
    let i : FitsSigned w128 c.low_end-lo.result = search rules in
    let j : FitsSigned w128 c.high_end-hi.result = search rules in
    let e : c.least_of_products-least.result ≡ least_product c.args.self.lo c.args.self.hi c.args.other.lo c.args.other.hi = grind (arith, to_z-of_z) in
    let e' : c.greatest_of_products-greatest.result ≡ greatest_product c.args.self.lo c.args.self.hi c.args.other.lo c.args.other.hi = grind (arith, to_z-of_z) in
    let h = simp to_z-of_z at c.low_end-lo.ensures.holds v in
    let h' = simp to_z-of_z at c.high_end-hi.ensures.holds v in
    record { from = simp to_z-of_z (h (rw e (omega (arith, ints)))); to = simp to_z-of_z (h' (rw e' (omega (arith, ints)))) }

pub returns-clause-tight : goal.returns-clause-tight
returns-clause-tight c = record { low = grind (arith, to_z-of_z); high = grind (arith, to_z-of_z) }

pub returns-clause-width : goal.returns-clause-width
returns-clause-width c =
    let f : FitsSigned w128 c.low_end-lo.result = search rules in
    let g : FitsSigned w128 c.high_end-hi.result = search rules in
    let t : IsTightRound (least_product c.args.self.lo c.args.self.hi c.args.other.lo c.args.other.hi) c.args.den (greatest_product c.args.self.lo c.args.self.hi c.args.other.lo c.args.other.hi) c.args.den c.low_end-lo.result c.high_end-hi.result = record { low = grind (arith, to_z-of_z); high = grind (arith, to_z-of_z) } in
    simp to_z-of_z (tight_width _ _ _ _ _ t)

pub invariant_of-result : goal.invariant_of-result
invariant_of-result c =
    let f : FitsSigned w128 c.args.den = c.ranges.den in
    let g : FitsSigned w128 c.least_of_products-least.result = search rules in
    let g' : FitsSigned w128 c.greatest_of_products-greatest.result = search rules in
    let i : FitsSigned w128 c.low_end-lo.result = search rules in
    let j : FitsSigned w128 c.high_end-hi.result = search rules in
    let e : c.least_of_products-least.result ≡ least_product c.args.self.lo c.args.self.hi c.args.other.lo c.args.other.hi = grind (arith, to_z-of_z) in
    let e' : c.greatest_of_products-greatest.result ≡ greatest_product c.args.self.lo c.args.self.hi c.args.other.lo c.args.other.hi = grind (arith, to_z-of_z) in
    let l : least_product c.args.self.lo c.args.self.hi c.args.other.lo c.args.other.hi ≤ℤ greatest_product c.args.self.lo c.args.self.hi c.args.other.lo c.args.other.hi = least_le_greatest c.args.self.lo c.args.self.hi c.args.other.lo c.args.other.hi in
    let v = int_div_euclid c.least_of_products-least.result c.args.den in
    let q : IsFloor c.least_of_products-least.result c.args.den v = floor_is c.least_of_products-least.result c.args.den c.requires.positive in
    let h = simp to_z-of_z at c.low_end-lo.ensures.holds v in
    let h' = simp to_z-of_z at c.high_end-hi.ensures.holds v in
    let a : c.low_end-lo.result ≤ℤ v = h (omega (arith, ints)) in
    let b : v ≤ℤ c.high_end-hi.result = h' (omega (arith, ints)) in
    record { ordered = simp to_z-of_z (le_z_trans _ _ _ a b) }
