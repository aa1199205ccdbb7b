use Rattle.std.proofs.Common.{◌≡◌, false, rules, Some}
use Rattle.std.proofs.lemmas.Result.{IfOk-weaker}
use Rattle.clap.specs.Simple.{new_rule}
use Rattle.clap.specs.Walk.{rule_of}
use Rattle.command_words.proofs.BuiltLemmas.{adds_rule}
use Rattle.command_words.proofs.program.with_option.Goals as goal

pub returns : goal.returns
returns c = λ app k.
    let rule = record (new_rule c.args.id.now) { long = Some c.args.id.now } in
    let here : c.long-option.result.global ≡ false = search rules in
    let is : rule_of c.long-option.result ≡ rule = search rules in
    IfOk-weaker c.arg.result _ _ (λ new adds. adds_rule _ new _ app rule here is k adds) c.arg.ensures
