use Rattle.std.proofs.Common.{◌≡◌, arith, to_z, of_z, w64, ◌∙◌, sym}
use Rattle.std.proofs.lemmas.Int.{ints}
use Rattle.range_contractor.proofs.MeetLemmas.{is_meet, dont_meet}
use Rattle.grid_model.specs.Boxes.{span_side}
use Rattle.range_contractor.proofs.meets.meet.Goals as goal

pub returns-then-lo-hi-clause-some : goal.returns-then-lo-hi-clause-some
returns-then-lo-hi-clause-some c =
    let e : to_z w64 (of_z w64 c.max-lo.result) ≡ c.max-lo.result = omega (arith, ints) in
    let f : to_z w64 (of_z w64 c.min-hi.result) ≡ c.min-hi.result = omega (arith, ints) in
    let le = c.if-lo-hi.true in
    let al : to_z w64 (of_z w64 c.args.a.now.lo) ≡ c.args.a.now.lo = omega (arith, ints) in
    let bl : to_z w64 (of_z w64 c.args.b.now.lo) ≡ c.args.b.now.lo = omega (arith, ints) in
    let ah : to_z w64 (of_z w64 c.args.a.now.hi) ≡ c.args.a.now.hi = omega (arith, ints) in
    let bh : to_z w64 (of_z w64 c.args.b.now.hi) ≡ c.args.b.now.hi = omega (arith, ints) in
    is_meet (span_side c.args.a.now) (span_side c.args.b.now) _ (e ∙ (rw (al, bl) at c.max-lo.ensures.value)) (f ∙ (rw (ah, bh) at c.min-hi.ensures.value)) (omega (arith, ints))

pub returns-else-lo-hi-clause-none : goal.returns-else-lo-hi-clause-none
returns-else-lo-hi-clause-none c = λ none.
    let al : to_z w64 (of_z w64 c.args.a.now.lo) ≡ c.args.a.now.lo = omega (arith, ints) in
    let bl : to_z w64 (of_z w64 c.args.b.now.lo) ≡ c.args.b.now.lo = omega (arith, ints) in
    let ah : to_z w64 (of_z w64 c.args.a.now.hi) ≡ c.args.a.now.hi = omega (arith, ints) in
    let bh : to_z w64 (of_z w64 c.args.b.now.hi) ≡ c.args.b.now.hi = omega (arith, ints) in
    let x = rw (al, bl) at c.max-lo.ensures.value in
    let y = rw (ah, bh) at c.min-hi.ensures.value in
    let z = c.if-lo-hi.false in
    dont_meet (span_side c.args.a.now) (span_side c.args.b.now) (rw (sym x, sym y) (omega (arith, ints)))
