use Rattle.std.proofs.Common.{fold, take}
use Rattle.clap.specs.Simple.{App}
use Rattle.command_words.specs.Program.{with_form}
use Rattle.command_words.specs.Built.{IsCommand, form_seen}
use Rattle.command_words.proofs.program.with_forms.Given as goal

abbrev pub invariant-loop-form : goal.invariant-loop-form
invariant-loop-form l =
    (app : App) → IsCommand l.fn.program app → IsCommand l.program (fold (λ a form. with_form a (form_seen form)) app (take l.form-index l.forms))
