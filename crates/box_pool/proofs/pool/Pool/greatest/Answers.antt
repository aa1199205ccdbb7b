use Rattle.std.proofs.Common.{◌≡◌, sym, ap, ◌∙◌, arith, inl, inr}
use Rattle.std.proofs.lemmas.Bool.{cases_lt}
use Rattle.std.proofs.lemmas.List.{get_or_past}
use Rattle.std.proofs.Math.Nat.{pow-succ'}
use Rattle.box_pool.specs.Chains.{lists_from}
use Rattle.box_pool.specs.Lists.{list_at, IsGreatest}
use Rattle.box_pool.proofs.ChainLemmas.{empty_at, some_at}
use Rattle.box_pool.proofs.MaskLemmas.{mask_zero, mask_top}
use Rattle.box_pool.proofs.pool.Pool.greatest.Goals as goal

pub returns-then-self-eq0-clause-greatest : goal.returns-then-self-eq0-clause-greatest
returns-then-self-eq0-clause-greatest c = λ bucket.
    let p = c.self.inside in let k = c.self.invariant in
    ap (λ v. list_at v.lists bucket) (sym c.self.view_is)
    ∙ empty_at p.cells.slots p.firsts p.lasts p.counts p.free p.spare p.used p.nodes k.1 (k.3.0 ∙ sym k.3.1) bucket
    (mask_zero p.counts bucket (sym k.2 ∙ c.if-self-eq0.true))

pub returns-clause-greatest : goal.returns-clause-greatest
returns-clause-greatest c =
    let p = c.self.inside in let k = c.self.invariant in let j = c.ilog2.result in let even = k.3.0 ∙ sym k.3.1 in
    let top = mask_top p.counts j (omega (arith, k.2, c.ilog2.ensures.power_le)) (omega (arith, k.2, c.ilog2.ensures.next_power_gt, pow-succ' 2 j)) in
    let lists : lists_from p.cells.slots p.firsts p.counts ≡ c.args.self.now.lists = ap (λ v. v.lists) c.self.view_is in
    let found : IsGreatest (lists_from p.cells.slots p.firsts p.counts) j = record {
      filled = some_at p.cells.slots p.firsts p.lasts p.counts p.free p.spare p.used p.nodes k.1 even j top.0;
      none_greater = λ greater lt. empty_at p.cells.slots p.firsts p.lasts p.counts p.free p.spare p.used p.nodes k.1 even greater (top.1 greater lt);
    } in
    rw (← lists) found

pub returns-clause-small : goal.returns-clause-small
returns-clause-small c =
    let p = c.self.inside in let k = c.self.invariant in let j = c.ilog2.result in
    let top = mask_top p.counts j (omega (arith, k.2, c.ilog2.ensures.power_le)) (omega (arith, k.2, c.ilog2.ensures.next_power_gt, pow-succ' 2 j)) in
    elim (cases_lt j 48) [
      | inl lt ↦ lt
      | inr le ↦ absurd (top.0 (get_or_past p.counts j 0 (omega (arith, k.3.1, le))))
    ]
