use Rattle.std.proofs.Common.{fold, take}
use Rattle.clap.specs.Simple.{App}
use Rattle.command_words.specs.Program.{with_word}
use Rattle.command_words.specs.Built.{IsCommand}
use Rattle.command_words.proofs.program.with_words.Given as goal

abbrev pub invariant-loop-id : goal.invariant-loop-id
invariant-loop-id l =
    (app : App) → IsCommand l.fn.command app → IsCommand l.command (fold (λ a id. with_word a id.now) app (take l.id-index l.ids))
