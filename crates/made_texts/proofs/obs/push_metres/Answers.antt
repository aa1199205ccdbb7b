use Rattle.std.proofs.Common.{◌≡◌, arith, to_z, of_z}
use Rattle.std.specs.Int.{w64}
use Rattle.std.proofs.lemmas.Int.{ints}
use Rattle.made_texts.proofs.ObsWriting.{metres_placed}
use Rattle.made_texts.proofs.obs.push_metres.Goals as goal

pub returns : goal.returns
returns c =
    let same : to_z w64 (of_z w64 c.args.mm) ≡ c.args.mm = omega (arith, ints) in
    let amount = rw same at c.unsigned_abs-amount.ensures.value in
    let sign = rw same at c.sign.ensures in
    rw (c.in_ok-push_digits.ensures, c.in_ok-push.ensures.items, c.in_ok-push_decimal.ensures, c.in_ok-extend_from_slice.ensures.items, c.as_bytes.ensures.value, sign, amount)
    (metres_placed c.args.text.now.items c.args.mm)
