use Rattle.std.proofs.Common.{◌≡◌, arith, rules, FitsSigned, w64}
use Rattle.std.specs.Prelude.{◌+ℤ◌, ◌*ℤ◌}
use Rattle.std.proofs.lemmas.Int.{ints, to_z-of_z}
use Rattle.grid_model.specs.Sizes.{IsWithin}
use Rattle.zone_guard.proofs.BeyondLemmas.{both_within, fits_way, two_same}
use Rattle.zone_guard.proofs.beyond.both_times.Goals as goal

pub overflow_add-result : goal.overflow_add-result
overflow_add-result c =
    let v = c.times.ensures.bound in
    let w = c.times-2.ensures.bound in
    omega (arith, ints, v.low, v.high, w.low, w.high)

pub returns-clause-value : goal.returns-clause-value
returns-clause-value c =
    let n : FitsSigned w64 c.args.n = c.ranges.n in
    let a : FitsSigned w64 c.args.a = c.ranges.a in
    let k : FitsSigned w64 c.args.k = c.ranges.k in
    let b : FitsSigned w64 c.args.b = c.ranges.b in
    let f : FitsSigned w64 c.times.result = search rules in
    let g : FitsSigned w64 c.times-2.result = search rules in
    let s : FitsSigned w64 (c.times.result +ℤ c.times-2.result) = fits_way _ (both_within _ _ c.times.ensures.bound c.times-2.ensures.bound) in
    let x : c.times.result ≡ c.args.n *ℤ c.args.a = simp to_z-of_z at c.times.ensures.value in
    let y : c.times-2.result ≡ c.args.k *ℤ c.args.b = simp to_z-of_z at c.times-2.ensures.value in
    simp to_z-of_z (two_same _ _ _ _ x y)

pub returns-clause-bound : goal.returns-clause-bound
returns-clause-bound c =
    let f : FitsSigned w64 c.times.result = search rules in
    let g : FitsSigned w64 c.times-2.result = search rules in
    let w : IsWithin 2199023255552 (c.times.result +ℤ c.times-2.result) = both_within _ _ c.times.ensures.bound c.times-2.ensures.bound in
    let s : FitsSigned w64 (c.times.result +ℤ c.times-2.result) = fits_way _ w in
    simp to_z-of_z w
