use Rattle.std.proofs.Common.{rules, FitsSigned, lit≤}
use Rattle.std.specs.Int.{w128}
use Rattle.std.proofs.lemmas.Int.{to_z-of_z}
use Rattle.grid_model.proofs.ProductLemmas.{larger}
use Rattle.sat_clock.proofs.ClockLemmas.{since_ends}
use Rattle.sat_clock.proofs.times.since_clock.Goals as goal

pub minus-requires-clause-low_size : goal.minus-requires-clause-low_size
minus-requires-clause-low_size c =
    let el = c.args.el.now in
    let f : FitsSigned w128 el.toc = search rules in
    let e = since_ends el c.args.tsv.lo c.args.tsv.hi c.args.tsv.ordered c.requires.near in
    simp to_z-of_z (larger _ _ _ (lit≤ tt) e.low)

pub minus-requires-clause-high_size : goal.minus-requires-clause-high_size
minus-requires-clause-high_size c =
    let el = c.args.el.now in
    let f : FitsSigned w128 el.toc = search rules in
    let e = since_ends el c.args.tsv.lo c.args.tsv.hi c.args.tsv.ordered c.requires.near in
    simp to_z-of_z (larger _ _ _ (lit≤ tt) e.high)

pub returns-clause-ends : goal.returns-clause-ends
returns-clause-ends c =
    let el = c.args.el.now in
    let f : FitsSigned w128 el.toc = search rules in
    let d = simp to_z-of_z at c.minus.ensures.low in
    let h = simp to_z-of_z at c.minus.ensures.high in
    rw (d, h) (since_ends el c.args.tsv.lo c.args.tsv.hi c.args.tsv.ordered c.requires.near)
