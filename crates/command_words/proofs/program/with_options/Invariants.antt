use Rattle.std.proofs.Common.{fold, take}
use Rattle.clap.specs.Simple.{App}
use Rattle.command_words.specs.Program.{with_option}
use Rattle.command_words.specs.Built.{IsCommand}
use Rattle.command_words.proofs.program.with_options.Given as goal

abbrev pub invariant-loop-id : goal.invariant-loop-id
invariant-loop-id l =
    (app : App) → IsCommand l.fn.command app → IsCommand l.command (fold (λ a id. with_option a id.now) app (take l.id-index l.ids))
