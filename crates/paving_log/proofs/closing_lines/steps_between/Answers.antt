use Rattle.std.proofs.Common.{◌≡◌, ℕ, List, length, ap, sym, subst, ◌∙◌, arith}
use Rattle.step_lines.specs.Texts.{AreLines, AreCounted}
use Rattle.step_lines.proofs.LineLemmas.{one_steps}
use Rattle.paving_log.proofs.EndLemmas.{part_at}
use Rattle.paving_log.proofs.closing_lines.steps_between.Goals as goal

pub of_lines-requires-clause-counted : goal.of_lines-requires-clause-counted
of_lines-requires-clause-counted c =
    let text = c.args.text.now.value.items in
    let same : c.in_ok-text.text.value.items ≡ text = ap (λ v. v.items) c.in_ok-text.ensures.cases in
    let long : length c.deref-bytes.result.now.items ≡ length text = ap (λ v. length v.items) c.deref-bytes.ensures in
    let all : c.len.result ≡ length text = omega (arith, c.len.ensures, long) in
    let size : c.len-2.result ≡ length text = omega (arith, c.len-2.ensures, long) in
    let between = c.requires.between in
    let at = part_at text c.in_ok-text.text.value.items c.requires.whole.front c.args.before.rest.now between.part c.args.now.rest.now c.len.result c.len-2.result c.requires.whole.parts between.parts same all size in
    subst (λ (part : List ℕ). AreCounted part c.args.count c.args.kept) (sym at) between.counted

pub returns : goal.returns
returns c = λ part parts found.
    let text = c.args.text.now.value.items in
    let same : c.in_ok-text.text.value.items ≡ text = ap (λ v. v.items) c.in_ok-text.ensures.cases in
    let long : length c.deref-bytes.result.now.items ≡ length text = ap (λ v. length v.items) c.deref-bytes.ensures in
    let all : c.len.result ≡ length text = omega (arith, c.len.ensures, long) in
    let size : c.len-2.result ≡ length text = omega (arith, c.len-2.ensures, long) in
    let at = part_at text c.in_ok-text.text.value.items c.requires.whole.front c.args.before.rest.now part c.args.now.rest.now c.len.result c.len-2.result c.requires.whole.parts parts same all size in
    let lines = subst AreLines (sym at) found in
    c.of_lines.ensures lines ∙ one_steps _ part lines found at
