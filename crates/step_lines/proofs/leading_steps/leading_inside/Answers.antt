use Rattle.std.proofs.Common.{◌≡◌, ◌≤ℤ◌, w64, to_z, of_z, arith}
use Rattle.std.proofs.lemmas.Int.{ints}
use Rattle.step_lines.proofs.LeadingLemmas.{inside_fields}
use Rattle.step_lines.proofs.leading_steps.leading_inside.Goals as goal

pub returns : goal.returns
returns c =
    let clock : to_z w64 (of_z w64 c.in_ok-clock.clock) ≡ c.in_ok-clock.clock = omega (arith, ints) in
    let lo : to_z w64 (of_z w64 c.in_ok-lo.lo) ≡ c.in_ok-lo.lo = omega (arith, ints) in
    let hi : to_z w64 (of_z w64 c.in_ok-hi.hi) ≡ c.in_ok-hi.hi = omega (arith, ints) in
    let ordered : c.in_ok-lo.lo ≤ℤ c.in_ok-hi.hi = omega (arith, ints, c.if-lo-hi.false) in
    rw (clock, lo, hi) (inside_fields c.args.fields.now c.in_ok-id.rest.now c.in_ok-clock.rest.now c.in_ok-lo.rest.now c.in_ok-hi.rest.now _ _ _ _
    c.in_ok-id.ensures c.in_ok-clock.ensures c.in_ok-lo.ensures c.in_ok-hi.ensures ordered)
