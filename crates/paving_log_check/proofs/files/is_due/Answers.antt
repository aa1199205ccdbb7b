use Rattle.std.proofs.Common.{◌+◌, arith, drop, map}
use Rattle.paving_log.specs.Values.{block_of}
use Rattle.paving_log_check.proofs.PlaceLemmas.{block_left, blocks_ended, due_block, due_none}
use Rattle.grid_model.specs.Boxes.{grid_box}
use Rattle.paving_log_check.proofs.files.is_due.Goals as goal

pub returns-then-k-blocks : goal.returns-then-k-blocks
returns-then-k-blocks g c =
    let block = c.index-blocks-k.result in
    rw c.is_some.ensures (due_block c.args.rules.now c.args.before (g.W.Walk.searches c.args.left.now)
    (λ found. found.0.now) (λ found. grid_box found.1) g.W.Walk.keeps (g.W.Walk.behind c.take_due.new.left) (block_of block)
    (drop c.args.k (map block_of c.args.blocks.now)) (drop (c.args.k + 1) (map block_of c.args.blocks.now)) c.take_due.result
    (block_left c.args.blocks.now c.args.k block c.if-k-blocks.true c.index-blocks-k.is) c.take_due.ensures.due)

pub returns-else-k-blocks : goal.returns-else-k-blocks
returns-else-k-blocks g c =
    due_none c.args.rules.now c.args.before (g.W.Walk.searches c.args.left.now)
    (λ found. found.0.now) (λ found. grid_box found.1) g.W.Walk.keeps (g.W.Walk.behind c.next.new.self)
    (drop c.args.k (map block_of c.args.blocks.now)) c.next.result c.is_none.result c.is_none.ensures
    (blocks_ended c.args.blocks.now c.args.k (omega (arith, c.if-k-blocks.false))) c.requires c.next.ensures.first
