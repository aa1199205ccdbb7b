use Rattle.std.proofs.Common.{◌≡◌, [], ◌∷◌, append_assoc, to_z, of_z, arith}
use Rattle.std.specs.Int.{w64}
use Rattle.std.proofs.lemmas.Int.{ints}
use Rattle.epoch_report.specs.Metres.{metres_text}
use Rattle.epoch_report.proofs.lengths.push_metres.Goals as goal

pub returns-clause-pushed : goal.returns-clause-pushed
returns-clause-pushed c =
    let same : to_z w64 (of_z w64 c.args.um) ≡ c.args.um = omega (arith, ints) in
    let pushed = rw same at c.push_length.ensures.pushed in
    rw (pushed, c.push_str.ensures.bytes)
    (append_assoc c.args.line.now.bytes (32 ∷ []) (metres_text c.args.um))
