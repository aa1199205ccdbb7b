use Rattle.std.proofs.Common.{◌≡◌, pos, neg_ℤ, ◌-ℤ◌, to_z, of_z, w64, arith}
use Rattle.std.proofs.lemmas.Int.{ints}
use Rattle.log_tokens.proofs.fields.amount.Goals as goal

pub returns : goal.returns
returns c =
    let low : to_z w64 (of_z w64 (pos 0 -ℤ to_z w64 c.args.bound)) ≡ neg_ℤ (pos c.args.bound) = omega (arith, ints) in
    let high : to_z w64 c.args.bound ≡ pos c.args.bound = omega (arith, ints) in
    rw (low, high) at c.number.ensures
