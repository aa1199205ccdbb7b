use Rattle.std.proofs.Common.{arith, ◌≡◌, ◌*◌, ◌/◌, ap, ◌∙◌}
use Rattle.std.proofs.Math.Nat.{div-div-eq-div-mul}
use Rattle.interval_trig.specs.NestedSums.{fine}
use Rattle.interval_trig.proofs.parts.over_of.Goals as goal

pub returns-clause-value : goal.returns-clause-value
returns-clause-value c =
    let e : c.fine_product.result ≡ c.args.y * c.args.part / fine = c.fine_product.ensures.value in
    rw e (div-div-eq-div-mul (c.args.y * c.args.part) fine c.args.d ∙ ap (λ n. c.args.y * c.args.part / n) (omega arith))
