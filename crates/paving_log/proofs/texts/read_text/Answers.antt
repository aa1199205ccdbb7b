use Rattle.std.proofs.Common.{◌≡◌, length, ap, sym, ◌∙◌, arith}
use Rattle.paving_log.proofs.texts.read_text.Goals as goal

pub read_bytes-requires : goal.read_bytes-requires
read_bytes-requires c =
    let same : c.deref.result.now ≡ c.args.text.now.value.items = c.deref.ensures.value ∙ ap (λ v. v.items) c.deref-bytes.ensures in
    record { whole = same; short = omega (arith, ap length same, c.requires) }

pub returns-clause-value : goal.returns-clause-value
returns-clause-value c =
    let same : c.deref.result.now ≡ c.args.text.now.value.items = c.deref.ensures.value ∙ ap (λ v. v.items) c.deref-bytes.ensures in
    rw (sym same) c.read_bytes.ensures.value

pub returns-clause-fault : goal.returns-clause-fault
returns-clause-fault c =
    let same : c.deref.result.now ≡ c.args.text.now.value.items = c.deref.ensures.value ∙ ap (λ v. v.items) c.deref-bytes.ensures in
    rw (sym same) c.read_bytes.ensures.fault
