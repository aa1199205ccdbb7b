use Rattle.std.proofs.Common.{◌≡◌, arith, to_z, of_z, w64, ◌∙◌}
use Rattle.std.proofs.lemmas.Int.{ints}
use Rattle.range_contractor.proofs.MeetLemmas.{is_hull}
use Rattle.grid_model.specs.Boxes.{span_side}
use Rattle.range_contractor.proofs.meets.hull.Goals as goal

pub returns : goal.returns
returns c =
    let e : to_z w64 (of_z w64 c.min.result) ≡ c.min.result = omega (arith, ints) in
    let f : to_z w64 (of_z w64 c.max.result) ≡ c.max.result = omega (arith, ints) in
    let al : to_z w64 (of_z w64 c.args.a.now.lo) ≡ c.args.a.now.lo = omega (arith, ints) in
    let bl : to_z w64 (of_z w64 c.args.b.now.lo) ≡ c.args.b.now.lo = omega (arith, ints) in
    let ah : to_z w64 (of_z w64 c.args.a.now.hi) ≡ c.args.a.now.hi = omega (arith, ints) in
    let bh : to_z w64 (of_z w64 c.args.b.now.hi) ≡ c.args.b.now.hi = omega (arith, ints) in
    is_hull (span_side c.args.a.now) (span_side c.args.b.now) _ (e ∙ (rw (al, bl) at c.min.ensures.value)) (f ∙ (rw (ah, bh) at c.max.ensures.value))
