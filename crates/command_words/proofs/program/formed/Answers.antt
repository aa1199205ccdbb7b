use Rattle.clap.specs.Simple.{new_app}
use Rattle.command_words.specs.Built.{IsCommand}
use Rattle.command_words.proofs.program.formed.Goals as goal

pub returns : goal.returns
returns c =
    let new : IsCommand c.new-command.result (new_app c.args.form.now.name.now) = record {
      app_is = c.new-command.ensures.app;
      local = c.new-command.ensures.local;
    } in
    c.with_flags.ensures _ (c.in_ok-command-2.ensures _ (c.in_ok-command.ensures _ new))
