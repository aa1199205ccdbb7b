use Rattle.std.proofs.Common.{◌≡◌, arith, rules, FitsSigned, w64}
use Rattle.std.specs.Prelude.{◌+ℤ◌, ◌*ℤ◌}
use Rattle.std.specs.Int.{w128}
use Rattle.std.proofs.lemmas.Int.{ints, to_z-of_z}
use Rattle.zone_guard.proofs.BeyondLemmas.{fits_limit, limits_within, two_same}
use Rattle.zone_guard.proofs.beyond.both_limits.Goals as goal

pub overflow_add-result : goal.overflow_add-result
overflow_add-result c =
    let v = c.limit_times.ensures.bound in
    let w = c.limit_times-2.ensures.bound in
    omega (arith, ints, v.low, v.high, w.low, w.high)

pub returns : goal.returns
returns c =
    let n : FitsSigned w64 c.args.n = c.ranges.n in
    let a : FitsSigned w128 c.args.a = c.ranges.a in
    let k : FitsSigned w64 c.args.k = c.ranges.k in
    let b : FitsSigned w128 c.args.b = c.ranges.b in
    let f : FitsSigned w128 c.limit_times.result = search rules in
    let g : FitsSigned w128 c.limit_times-2.result = search rules in
    let s : FitsSigned w128 (c.limit_times.result +ℤ c.limit_times-2.result) = fits_limit _ (limits_within _ _ c.limit_times.ensures.bound c.limit_times-2.ensures.bound) in
    let x : c.limit_times.result ≡ c.args.n *ℤ c.args.a = simp to_z-of_z at c.limit_times.ensures.value in
    let y : c.limit_times-2.result ≡ c.args.k *ℤ c.args.b = simp to_z-of_z at c.limit_times-2.ensures.value in
    simp to_z-of_z (two_same _ _ _ _ x y)
