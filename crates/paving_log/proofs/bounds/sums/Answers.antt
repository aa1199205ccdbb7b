use Rattle.std.proofs.Common.{◌≡◌, suc, ◌-◌, length, length-append, [], ◌∷◌, ap, arith}
use Rattle.paving_log.proofs.BoundLemmas.{sum_taken}
use Rattle.paving_log.proofs.bounds.sums.Goals as goal

pub sums-preserved : goal.sums-preserved
sums-preserved c =
    let sum = c.in-By.sum in
    let left = c.sums.left in
    let sums = c.sums.sums.items in
    let less : left ≡ suc (left - 1) = omega (arith, c.sums-test.true) in
    let pushed = c.in_ok-push-in-By.ensures.items in (
      sum_taken c.args.form c.args.n left (left - 1) c.args.lines c.sums.behind c.in_ok-line.after sums c.push.new.self.items sum c.in_ok-line.line c.in_ok-line.field-0-1
          c.sums.invariant.0 c.in-By.is c.in_ok-line.ensures.taken pushed less,
      omega (arith, ap length pushed, length-append sums (sum ∷ []), c.sums.invariant.1, less),
    )
