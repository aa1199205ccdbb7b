use Rattle.std.proofs.Common.{◌≡◌, true, false, rules}
use Rattle.std.proofs.lemmas.Result.{IfOk-weaker}
use Rattle.clap.specs.Simple.{new_rule}
use Rattle.clap.specs.Walk.{rule_of}
use Rattle.command_words.proofs.BuiltLemmas.{adds_rule}
use Rattle.command_words.proofs.program.with_word.Goals as goal

pub returns : goal.returns
returns c = λ app k.
    let rule = record (new_rule c.args.id.now) { required = true } in
    let here : c.required-word.result.global ≡ false = search rules in
    let is : rule_of c.required-word.result ≡ rule = search rules in
    IfOk-weaker c.arg.result _ _ (λ new adds. adds_rule _ new _ app rule here is k adds) c.arg.ensures
