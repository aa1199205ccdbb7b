use Rattle.std.proofs.Common.{◌≡◌, length, take, arith, refl, subst, sym, ap, ◌∙◌}
use Rattle.std.proofs.lemmas.List.{take_all}
use Rattle.box_pool.specs.Lists.{list_at}
use Rattle.box_pool.specs.Hulls.{IsHullOf}
use Rattle.box_pool.proofs.ChainLemmas.{empty_at, lists_long}
use Rattle.box_pool.proofs.MaskLemmas.{mask_zero}
use Rattle.box_pool.proofs.HullLemmas.{flat, flat_more, hull_all}
use Rattle.box_pool.proofs.pool.Pool.hull.Goals as goal

pub returns-then-self-eq0 : goal.returns-then-self-eq0
returns-then-self-eq0 c = λ bucket.
    let p = c.self.inside in let k = c.self.invariant in
    ap (λ v. list_at v.lists bucket) (sym c.self.view_is)
    ∙ empty_at p.cells.slots p.firsts p.lasts p.counts p.free p.spare p.used p.nodes k.1 (k.3.0 ∙ sym k.3.1) bucket
    (mask_zero p.counts bucket (sym k.2 ∙ c.if-self-eq0.true))

pub loop-bucket-init : goal.loop-bucket-init
unfolding flat
loop-bucket-init c = refl

pub loop-bucket-preserved : goal.loop-bucket-preserved
loop-bucket-preserved c =
    subst (λ xs. IsHullOf xs c.hull_with-hull.result) (sym (flat_more c.args.self.now.lists c.loop-bucket.bucket)) (c.hull_with-hull.ensures (flat (take c.loop-bucket.bucket c.args.self.now.lists)) c.loop-bucket.invariant)

pub returns : goal.returns
returns c =
    let p = c.self.inside in let k = c.self.invariant in let lists = c.args.self.now.lists in
    let long : length lists ≡ 48 = ap (λ v. length v.lists) (sym c.self.view_is) ∙ lists_long p.cells.slots p.firsts p.counts (k.3.0 ∙ sym k.3.1) ∙ k.3.1 in
    let all : take c.loop-bucket.bucket lists ≡ lists = take_all c.loop-bucket.bucket lists (omega (arith, long, c.loop-bucket-test.false)) in
    hull_all lists c.loop-bucket.hull (subst (λ ls. IsHullOf (flat ls) c.loop-bucket.hull) all c.loop-bucket.invariant)
