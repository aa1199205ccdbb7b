use Rattle.std.proofs.Common.{length, arith, ap}
use Rattle.std.proofs.lemmas.Str.{length-encode, len_utf8_bounds}
use Rattle.std.proofs.lemmas.List.{length-append}
use lib.Utf8.{encode}
use Rattle.log_lines.proofs.write.push_ascii.Goals as goal

pub push-requires : goal.push-requires
push-requires c = omega (arith, length-encode c.from.result, len_utf8_bounds c.from.result)

pub returns-clause-length : goal.returns-clause-length
returns-clause-length c =
    omega (arith, length-encode c.from.result, len_utf8_bounds c.from.result, ap length c.push.ensures.bytes, length-append c.args.line.now.bytes (encode c.from.result))
