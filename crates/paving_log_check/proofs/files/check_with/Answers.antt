use Rattle.std.proofs.Common.{◌+◌, arith, refl, sym, ap, drop, ◌∙◌, Option, rules}
use Rattle.std.proofs.lemmas.Bool.{false≢true}
use Rattle.epoch_selection.specs.Searches.{search_in}
use Rattle.grid_model.specs.Boxes.{GridBox, grid_box}
use Rattle.paving_log.specs.Values.{block_of, log_value}
use Rattle.paving_log_check.proofs.CheckLemmas.{block_numbered, body_passes, rules_refused, due_refused, block_refused}
use Rattle.paving_log_check.proofs.LastLineLemmas.{same_fault}
use Rattle.paving_log_check.proofs.OnWayLemmas.{body_folds, body_root, way_first, next_search, way_more, way_ended}
use Rattle.paving_log_check.proofs.PlaceLemmas.{block_left, blocks_ended}
use Rattle.sat_model.specs.Logs.{lines_in}
use Rattle.paving_log_check.proofs.files.check_with.Goals as goal

pub returns-then-not-are_same_rules-clause-no : goal.returns-then-not-are_same_rules-clause-no
returns-then-not-are_same_rules-clause-no g c =
    rules_refused (g.S.RowSource.meaning c.args.source.now) c.args.rules.now (g.W.Walk.searches c.args.walk.now (log_value c.args.log.now).blocks) (log_value c.args.log.now) c.plain_fault.result
    (λ is. false≢true (sym c.if-not-are_same_rules.true ∙ c.are_same_rules.ensures.1 is)) c.plain_fault.ensures.line c.plain_fault.ensures.number c.plain_fault.ensures.no_spans

pub loop-k-init : goal.loop-k-init
loop-k-init g c = (way_first (g.S.RowSource.meaning c.args.source.now) c.args.rules.now (g.W.Walk.searches c.args.walk.now) (log_value c.args.log.now) c.requires.numbered, c.requires.ready)

pub lines_of-next-requires : goal.lines_of-next-requires
lines_of-next-requires g c =
    let first = block_left c.args.log.now.epochs.items c.loop-k.k c.index-epoch.result.now (omega (arith, c.loop-k-test.true, c.len-k-end.ensures, c.args.log.now.epochs.ok)) c.index-epoch.ensures in
    let numbered = block_numbered (g.S.RowSource.meaning c.args.source.now) (block_of c.index-epoch.result.now) (drop (c.loop-k.k + 1) (log_value c.args.log.now).blocks) c.loop-k.invariant.0.underway first in
    omega (arith, numbered.1)

pub overflow_add-next : goal.overflow_add-next
overflow_add-next g c =
    let first = block_left c.args.log.now.epochs.items c.loop-k.k c.index-epoch.result.now (omega (arith, c.loop-k-test.true, c.len-k-end.ensures, c.args.log.now.epochs.ok)) c.index-epoch.ensures in
    let numbered = block_numbered (g.S.RowSource.meaning c.args.source.now) (block_of c.index-epoch.result.now) (drop (c.loop-k.k + 1) (log_value c.args.log.now).blocks) c.loop-k.invariant.0.underway first in
    omega (arith, numbered.1, c.lines_of-next.ensures)

pub check_epoch-requires-clause-numbered : goal.check_epoch-requires-clause-numbered
check_epoch-requires-clause-numbered g c =
    let first = block_left c.args.log.now.epochs.items c.loop-k.k c.index-epoch.result.now (omega (arith, c.loop-k-test.true, c.len-k-end.ensures, c.args.log.now.epochs.ok)) c.index-epoch.ensures in
    let numbered = block_numbered (g.S.RowSource.meaning c.args.source.now) (block_of c.index-epoch.result.now) (drop (c.loop-k.k + 1) (log_value c.args.log.now).blocks) c.loop-k.invariant.0.underway first in
    omega (arith, numbered.0, numbered.1)

pub returns-in_default-clause-no : goal.returns-in_default-clause-no
returns-in_default-clause-no g c =
    let first = block_left c.args.log.now.epochs.items c.loop-k.k c.index-epoch.result.now (omega (arith, c.loop-k-test.true, c.len-k-end.ensures, c.args.log.now.epochs.ok)) c.index-epoch.ensures in
    due_refused (g.S.RowSource.meaning c.args.source.now) c.plain_fault-in_default.result c.loop-k.invariant.0.underway (c.are_same_rules.ensures.0 c.if-not-are_same_rules.false)
    (λ due. c.in_default.ensures.due (drop (c.loop-k.k + 1) (log_value c.args.log.now).blocks) (rw first at due))
    c.plain_fault-in_default.ensures.line c.plain_fault-in_default.ensures.number c.plain_fault-in_default.ensures.no_spans

pub is_due-due-requires : goal.is_due-due-requires
is_due-due-requires g c = let ready = c.go_on.ensures.ready c.in-Some.ensures.all in search rules

pub returns-in-Some-2-clause-no : goal.returns-in-Some-2-clause-no
returns-in-Some-2-clause-no g c =
    let m = g.S.RowSource.meaning c.args.source.now in
    let first = block_left c.args.log.now.epochs.items c.loop-k.k c.index-epoch.result.now (omega (arith, c.loop-k-test.true, c.len-k-end.ensures, c.args.log.now.epochs.ok)) c.index-epoch.ensures in
    let block = block_of c.index-epoch.result.now in
    let more = drop (c.loop-k.k + 1) (log_value c.args.log.now).blocks in
    let new = c.take_due.new.left in
    let seen = c.in-Some.seen.now in
    let root = grid_box c.in-Some.root in
    let way = c.loop-k.invariant.0 in
    let here = next_search m c.args.rules.now (g.W.Walk.searches c.args.walk.now) (log_value c.args.log.now) way g.W.Walk.keeps (g.W.Walk.behind new) seen root block more c.in-Some.ensures.due.first first in
    let numbered = block_numbered m block more way.underway first in
    let refused = rw c.in-Some-2.is at c.in_ok-fault.ensures in
    let due = rw c.deref.ensures.value at c.is_due-due.ensures in
    let after = g.W.Walk.searches c.go_on.new.self more in
    let real = g.W.Walk.behind new seen.tag (g.W.Walk.keeps root block) more in
    block_refused m (search_in root seen) real block more c.in-Some-2.fault c.first_of.result
    way.underway (c.are_same_rules.ensures.0 c.if-not-are_same_rules.false) here first c.in-Some.ensures.due.is_of refused
    (λ own fails.
    same_fault m.delays c.args.rules.now (c.loop-k.next + lines_in block) own (search_in root seen) after real block.body block more c.first_of.result refl (omega (arith, numbered.0))
    (λ none. c.in-Some.ensures.due.first.few block more none ∙ sym (c.go_on.ensures.searches more))
    (rw c.lines_of-next.ensures at (c.first_of.ensures m.delays c.args.rules.now own (search_in root seen) after block more fails due)))

pub kept_in-requires : goal.kept_in-requires
kept_in-requires g c =
    let m = g.S.RowSource.meaning c.args.source.now in
    let passes = rw c.in_default-2.is at c.in_ok-fault.ensures in
    let block = block_of c.index-epoch.result.now in
    let over = body_root m.delays c.args.rules.now (grid_box c.in-Some.root) passes.own.renewed block block.body passes.passes.body in
    let folds = body_folds m.delays c.args.rules.now (grid_box c.in-Some.root) passes.own.renewed block block.body passes.passes.body in
    let root = c.in-Some.ensures.root in
    search rules

pub loop-k-preserved : goal.loop-k-preserved
loop-k-preserved g c =
    let m = g.S.RowSource.meaning c.args.source.now in
    let first = block_left c.args.log.now.epochs.items c.loop-k.k c.index-epoch.result.now (omega (arith, c.loop-k-test.true, c.len-k-end.ensures, c.args.log.now.epochs.ok)) c.index-epoch.ensures in
    let block = block_of c.index-epoch.result.now in
    let more = drop (c.loop-k.k + 1) (log_value c.args.log.now).blocks in
    let new = c.take_due.new.left in
    let seen = c.in-Some.seen.now in
    let root = grid_box c.in-Some.root in
    let passes = rw c.in_default-2.is at c.in_ok-fault.ensures in
    let kept = c.in_ok-kept.ensures.kept in
    let goes = c.go_on-in-loop-k.ensures.searches more ∙ ap (λ (k : Option GridBox). g.W.Walk.behind new seen.tag k more) kept in (
      rw c.lines_of-next.ensures (way_more m c.args.rules.now (g.W.Walk.searches c.args.walk.now) (log_value c.args.log.now) c.loop-k.invariant.0
          g.W.Walk.keeps (g.W.Walk.behind new) seen root block more c.in-Some.ensures.due.first first (g.W.Walk.searches c.go_on-in-loop-k.new.self) c.kept_boxes-boxes.result
          c.in-Some.ensures.sized goes c.in-Some.ensures.due.is_of passes
          (c.kept_boxes-boxes.ensures.value c.args.rules.now (body_passes m.delays c.args.rules.now root passes.own.renewed block block.body passes.passes.body))
          c.kept_boxes-boxes.ensures.bound),
      c.go_on-in-loop-k.ensures.ready c.in_ok-kept.ensures.suits,
    )

pub returns-then-not-is_due-clause-no : goal.returns-then-not-is_due-clause-no
returns-then-not-is_due-clause-no g c =
    let ended = blocks_ended c.args.log.now.epochs.items c.loop-k.k (omega (arith, c.loop-k-test.false, c.len-k-end.ensures, c.args.log.now.epochs.ok)) in
    let none = blocks_ended c.args.log.now.epochs.items c.len.result (omega (arith, c.len.ensures, c.args.log.now.epochs.ok)) in
    let due = rw none at (rw c.deref-2.ensures.value at c.is_due.ensures) in
    due_refused (g.S.RowSource.meaning c.args.source.now) c.plain_fault-then-not-is_due.result c.loop-k.invariant.0.underway (c.are_same_rules.ensures.0 c.if-not-are_same_rules.false)
    (λ is. false≢true (sym c.if-not-is_due.true ∙ due.1 (rw ended at is)))
    c.plain_fault-then-not-is_due.ensures.line c.plain_fault-then-not-is_due.ensures.number c.plain_fault-then-not-is_due.ensures.no_spans

pub returns-clause-yes : goal.returns-clause-yes
returns-clause-yes g c =
    let ended = blocks_ended c.args.log.now.epochs.items c.loop-k.k (omega (arith, c.loop-k-test.false, c.len-k-end.ensures, c.args.log.now.epochs.ok)) in
    let none = blocks_ended c.args.log.now.epochs.items c.len.result (omega (arith, c.len.ensures, c.args.log.now.epochs.ok)) in
    let due = rw none at (rw c.deref-2.ensures.value at c.is_due.ensures) in
    way_ended (g.S.RowSource.meaning c.args.source.now) c.args.rules.now (g.W.Walk.searches c.args.walk.now) (log_value c.args.log.now) (g.met.S.RowSource.sound c.args.source.now)
    c.loop-k.invariant.0 (c.are_same_rules.ensures.0 c.if-not-are_same_rules.false) ended (due.0 c.if-not-is_due.false)
