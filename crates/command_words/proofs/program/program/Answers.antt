use Rattle.std.proofs.Common.{◌≡◌, map, fold, rules, ap, ◌∙◌}
use Rattle.std.proofs.lemmas.Result.{IfOk-weaker}
use Rattle.command_words.specs.Program.{bare, forms, with_form}
use Rattle.command_words.specs.Built.{form_seen}
use Rattle.command_words.proofs.program.program.Goals as goal

pub returns : goal.returns
returns c =
    let are : map form_seen c.as_slice.result.now ≡ forms = search rules in
    record {
      app = IfOk-weaker c.with_forms.result _ _ (λ all k. k.app_is ∙ ap (fold with_form bare) are) (c.with_forms.ensures bare c.bare.ensures);
    }
