use Rattle.std.proofs.Common.{◌<◌, ◌≤◌, length, arith}
use Rattle.command_words.specs.Program.{with_word}
use Rattle.command_words.specs.Built.{IsCommand}
use Rattle.command_words.proofs.BuiltLemmas.{one_more, all_taken}
use Rattle.command_words.proofs.program.with_words.Goals as goal

pub loop-id-preserved : goal.loop-id-preserved
loop-id-preserved c = λ app k.
    let within : c.loop-id.id-index < length c.args.ids.now = omega arith in
    one_more with_word (λ id. id.now) (λ a. IsCommand c.in_ok-command.command a) app c.args.ids.now c.loop-id.id-index _ within
    (c.in_ok-command.ensures _ (c.loop-id.invariant app k))

pub returns : goal.returns
returns c = λ app k.
    let whole : length c.args.ids.now ≤ c.loop-id.id-index = omega arith in
    all_taken with_word (λ id. id.now) (λ a. IsCommand c.loop-id.command a) app c.args.ids.now c.loop-id.id-index whole (c.loop-id.invariant app k)
