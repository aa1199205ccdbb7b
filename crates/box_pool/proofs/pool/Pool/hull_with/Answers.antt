use Rattle.std.proofs.Common.{Some, get_or, sym, ap, ◌∙◌}
use Rattle.box_pool.specs.Lists.{list_at}
use Rattle.box_pool.proofs.ChainLemmas.{lists_are}
use Rattle.box_pool.proofs.WalkLemmas.{begins, node_there, steps_on, ends}
use Rattle.box_pool.proofs.pool.Pool.hull_with.Goals as goal

pub loop-init : goal.loop-init
loop-init c =
    let p = c.self.inside in let k = c.self.invariant in let bucket = c.args.bucket in
    begins p.cells.slots (get_or p.firsts bucket 0) (get_or p.counts bucket 0) (list_at c.args.self.now.lists bucket) c.args.known (k.1.chain bucket) (k.1.linked bucket) (k.1.counted bucket)
    (sym (lists_are p.cells.slots p.firsts p.lasts p.counts p.free p.spare p.used p.nodes k.1 (k.3.0 ∙ sym k.3.1) bucket) ∙ ap (λ v. list_at v.lists bucket) c.self.view_is)

pub get-node-requires : goal.get-node-requires
get-node-requires c =
    let p = c.self.inside in let bucket = c.args.bucket in (
      sym c.self.invariant.0.cells_at,
      node_there p.cells.slots c.loop.place c.loop.counter (get_or p.counts bucket 0) (list_at c.args.self.now.lists bucket) c.args.known c.loop.hull c.loop.invariant c.loop-test.true,
    )

pub loop-preserved : goal.loop-preserved
loop-preserved c =
    let p = c.self.inside in let bucket = c.args.bucket in
    steps_on p.cells.slots c.loop.place c.loop.counter (get_or p.counts bucket 0) (list_at c.args.self.now.lists bucket) c.args.known c.loop.hull c.loop.invariant c.loop-test.true
    c.get-node.result.now c.get-node.ensures (Some c.around.result) c.around.ensures

pub returns : goal.returns
returns c =
    let p = c.self.inside in let bucket = c.args.bucket in
    ends p.cells.slots c.loop.place c.loop.counter (get_or p.counts bucket 0) (list_at c.args.self.now.lists bucket) c.args.known c.loop.hull c.loop.invariant c.loop-test.false
