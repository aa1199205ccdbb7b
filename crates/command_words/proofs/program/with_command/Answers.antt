use Rattle.std.proofs.lemmas.Result.{IfOk-weaker}
use Rattle.command_words.specs.Built.{IsCommand}
use Rattle.command_words.proofs.BuiltLemmas.{adds_command, of_ok}
use Rattle.command_words.proofs.program.with_command.Goals as goal

pub returns : goal.returns
returns c = λ app sub k made.
    let s = of_ok (λ x. IsCommand x sub) c.args.made c.in_ok-command.command c.in_ok-command.was made in
    IfOk-weaker c.subcommand.result _ _ (λ new adds. adds_command c.args.program c.in_ok-command.command new app sub k s adds) c.subcommand.ensures
