use Rattle.std.proofs.Common.{◌≡◌, ◌-◌, ◌+◌, List, Option, Some, get_or, set, sym, ap, subst, ◌∙◌, arith}
use Rattle.std.proofs.lemmas.List.{nil_from_length}
use Rattle.std.proofs.Math.ListN.{length-set}
use Rattle.box_pool.specs.declared.item.Node.{Node}
use Rattle.box_pool.specs.Chains.{node, lists_from, IsLinked}
use Rattle.box_pool.specs.Lists.{list_at}
use Rattle.box_pool.proofs.ChainLemmas.{items_of, lists_are, first_filled, popped}
use Rattle.box_pool.proofs.MaskLemmas.{mask_after, has_bit}
use Rattle.box_pool.proofs.PoolLemmas.{block_kept}
use Rattle.box_pool.proofs.pool.Pool.pop.Goals as goal

pub returns-then-self-queue-eq0-clause-popped : goal.returns-then-self-queue-eq0-clause-popped
returns-then-self-queue-eq0-clause-popped c =
    let p = c.self.inside in let k = c.self.invariant.1 in
    ap (λ v. list_at v.lists c.args.bucket) (sym c.self.view_is)
    ∙ lists_are p.cells.slots p.firsts p.lasts p.counts p.free p.spare p.used p.nodes k (c.self.told.0 ∙ sym c.self.told.2) c.args.bucket
    ∙ ap items_of (nil_from_length (k.chain c.args.bucket) (k.counted c.args.bucket ∙ c.if-self-queue-eq0.true))

pub relink-was-requires-clause-filled : goal.relink-was-requires-clause-filled
relink-was-requires-clause-filled c =
    let p = c.self.inside in
    first_filled p.cells.slots p.firsts p.lasts p.counts p.free p.spare p.used p.nodes c.self.invariant.1 (c.self.told.0 ∙ sym c.self.told.2) c.args.bucket c.if-self-queue-eq0.false

pub invariant_of-self : goal.invariant_of-self
invariant_of-self c =
    let p = c.self.inside in let k = c.self.invariant in let was = c.relink-was.result in let bucket = c.args.bucket in
    let first = get_or p.firsts bucket 0 in
    let done = popped p.cells.slots p.firsts p.lasts p.counts p.free p.spare p.used p.nodes k.1 (c.self.told.0 ∙ sym c.self.told.2) bucket (omega (arith, c.requires, c.self.told.0))
    was c.relink-was.ensures.was c.if-self-queue-eq0.false in (
      block_kept p.base p.cells c.relink-was.new.cells p.deed p.alloc p.nodes first (Some (node was.item p.free)) k.0 c.relink-was.ensures.at c.relink-was.ensures.slots,
      subst (λ (slots : List (Option Node)). IsLinked slots (set p.firsts bucket was.next) p.lasts (set p.counts bucket (get_or p.counts bucket 0 - 1)) first (p.spare + 1) p.used p.nodes)
          (sym c.relink-was.ensures.slots) done.0,
      mask_after p.counts bucket (get_or p.counts bucket 0 - 1) p.mask c.without-self-inside.result (omega (arith, c.requires, c.self.told.2)) c.if-self-queue-eq0.false k.2 c.without-self-inside.ensures.emptied c.without-self-inside.ensures.same,
      (length-set p.firsts bucket was.next ∙ k.3.0, length-set p.counts bucket (get_or p.counts bucket 0 - 1) ∙ k.3.1),
    )

pub returns-clause-popped : goal.returns-clause-popped
returns-clause-popped c =
    let p = c.self.inside in let k = c.self.invariant in let was = c.relink-was.result in let bucket = c.args.bucket in
    let done = popped p.cells.slots p.firsts p.lasts p.counts p.free p.spare p.used p.nodes k.1 (c.self.told.0 ∙ sym c.self.told.2) bucket (omega (arith, c.requires, c.self.told.0))
    was c.relink-was.ensures.was c.if-self-queue-eq0.false in
    let lists : lists_from p.cells.slots p.firsts p.counts ≡ c.args.self.now.lists = ap (λ v. v.lists) c.self.view_is in
    rw (← lists, c.relink-was.ensures.slots) done.1

pub without-self-inside-requires-clause-bit : goal.without-self-inside-requires-clause-bit
without-self-inside-requires-clause-bit c = let bit = has_bit c.self.inside.counts c.args.bucket (omega (arith, c.requires, c.self.told.2)) c.if-self-queue-eq0.false in omega (arith, bit, c.self.invariant.2)
