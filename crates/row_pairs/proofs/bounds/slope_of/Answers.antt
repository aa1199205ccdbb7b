use Rattle.std.proofs.Common.{◌≡◌, arith, rules, subst, sym, FitsSigned, w64}
use Rattle.std.specs.Prelude.{ℤ, pos, ◌*ℤ◌, ◌<ℤ◌}
use Rattle.std.specs.Int.{int_div_euclid, w128}
use Rattle.std.proofs.lemmas.Int.{ints, to_z-of_z}
use Rattle.grid_model.specs.Sizes.{IsWithin}
use Rattle.grid_model.proofs.RoundingLemmas.{floor_is}
use Rattle.sat_model.specs.Pairs.{scale}
use Rattle.row_pairs.proofs.SizeLemmas.{slope_small}
use Rattle.row_pairs.proofs.bounds.slope_of.Goals as goal

pub returns-clause-bound : goal.returns-clause-bound
returns-clause-bound c =
    let p : pos 0 <ℤ pos c.args.arm = omega (arith, ints) in
    let f : FitsSigned w64 c.args.away = c.ranges.away in
    let g : FitsSigned w128 c.from.result = search rules in
    let a : c.from.result ≡ c.args.away = simp to_z-of_z at c.from.ensures in
    let s : c.scaled.result ≡ int_div_euclid (pos scale *ℤ c.from.result) (pos c.args.arm) = simp to_z-of_z at c.scaled.ensures.value in
    let v : c.scaled.result ≡ int_div_euclid (pos scale *ℤ c.args.away) (pos c.args.arm) = rw a at s in
    let w : IsWithin 4194304 c.scaled.result =
    subst (λ (z : ℤ). IsWithin 4194304 z) (sym v) (slope_small scale c.args.arm c.args.away _ c.requires.arm (floor_is (pos scale *ℤ c.args.away) (pos c.args.arm) p)) in
    record { low = omega (arith, ints, w.low, w.high); high = omega (arith, ints, w.low, w.high) }
