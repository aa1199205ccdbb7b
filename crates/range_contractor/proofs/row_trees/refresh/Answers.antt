use Rattle.std.proofs.Common.{◌∙◌, sym, ap, length}
use Rattle.range_contractor.specs.Views.{tree_value}
use Rattle.range_contractor.proofs.ViewLemmas.{kids_many}
use Rattle.range_contractor.proofs.row_trees.refresh.Goals as goal

pub refill-requires : goal.refill-requires
refill-requires g c =
    let I = g.I.Interval in
    let (q, before, many, is) = c.requires in
    ap (λ k. length k.items) c.in-Relaxed.kids-is
    ∙ (kids_many I.low I.high I.GRAIN q c.in-Again.rounds c.in-Relaxed.q before c.in-Again.kid c.deref_mut.result.now c.in-Relaxed.kids
    (sym (ap (λ t. tree_value I.low I.high t) c.in-Again.is) ∙ is) (sym (ap (λ k. k.value) c.in-Again.kid-is) ∙ sym c.deref_mut.ensures.value) c.in-Relaxed.is).2 ∙ many
