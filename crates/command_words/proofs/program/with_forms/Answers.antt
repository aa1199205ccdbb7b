use Rattle.std.proofs.Common.{◌<◌, ◌≤◌, length, arith}
use Rattle.command_words.specs.Program.{with_form}
use Rattle.command_words.specs.Built.{IsCommand, form_seen}
use Rattle.command_words.proofs.BuiltLemmas.{one_more, all_taken}
use Rattle.command_words.proofs.program.with_forms.Goals as goal

pub loop-form-preserved : goal.loop-form-preserved
loop-form-preserved c = λ app k.
    let within : c.loop-form.form-index < length c.args.forms.now = omega arith in
    one_more with_form form_seen (λ a. IsCommand c.in_ok-program.program a) app c.args.forms.now c.loop-form.form-index _ within
    (c.in_ok-program.ensures _ _ (c.loop-form.invariant app k) c.formed.ensures)

pub returns : goal.returns
returns c = λ app k.
    let whole : length c.args.forms.now ≤ c.loop-form.form-index = omega arith in
    all_taken with_form form_seen (λ a. IsCommand c.loop-form.program a) app c.args.forms.now c.loop-form.form-index whole (c.loop-form.invariant app k)
