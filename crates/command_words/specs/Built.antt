-- The command line that is built for `clap`.
use Rattle.std.specs.Prelude.{◌≡◌, false}
use Rattle.clap.specs.Simple.{App, app_of}
use Rattle.clap.specs.Walk.{texts}
use Rattle.clap.specs.declared.builder.command.Command.{Command}
use Rattle.clap.specs.declared.builder.command.Command.TheViews.{out-Command}
use Rattle.command_words.specs.Program.{Form}
use Rattle.command_words.specs.declared.program.Form as built

-- clap's command is this one, and none of its arguments is one of its subcommands' too
pub record IsCommand (c : Command) (app : App) : Type 0 where
  pub app_is : app_of c ≡ app
  pub local : (out-Command c).has_globals ≡ false

abbrev pub form_seen : built.Form → Form
form_seen f = record {
  name = f.name.now;
  words = texts f.words.now;
  options = texts f.options.now;
  flags = texts f.flags.now;
}
