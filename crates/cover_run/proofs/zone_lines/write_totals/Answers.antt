use Rattle.std.proofs.Common.{◌∙◌, arith}
use Rattle.std.proofs.lemmas.Result.{err_from_is_err_and}
use Rattle.zone_guard.specs.WatchValues.{watch_values}
use Rattle.cover_run.proofs.ZoneLineLemmas.{flows_all, flows_cut, flows_first, flows_more}
use Rattle.cover_run.proofs.ZoneLineLemmas.{total_count, total_line_first}
use Rattle.cover_run.specs.ZoneTexts.{total_lines}
use Rattle.cover_run.proofs.zone_lines.write_totals.Goals as goal

pub loop-place-init : goal.loop-place-init
loop-place-init g c =
    flows_first _ _ (total_lines 0 c.args.epochs.now (watch_values c.args.watches.now))

pub loop-place-preserved : goal.loop-place-preserved
loop-place-preserved g c =
    let ws = c.args.watches.now in
    let epochs = c.args.epochs.now in
    let i = c.loop-place.place in
    let line = c.as_bytes.result.now in
    let is = c.as_bytes.ensures.value ∙ c.deref.ensures.0 ∙ c.total_line.ensures in
    flows_more _ _ _ _ _ _ (total_lines 0 epochs (watch_values ws)) i line
    (omega (arith, c.loop-place-test.true, total_count 0 epochs ws))
    (total_line_first epochs ws i c.index-watches-place.result line c.loop-place-test.true
    c.index-watches-place.is is)
    c.loop-place.invariant c.in_ok-write_line.ensures

pub returns-in_err-write_line : goal.returns-in_err-write_line
returns-in_err-write_line g c =
    let p = err_from_is_err_and c.from_residual.result c.from_residual.ensures.1 in
    let ws = c.args.watches.now in
    let epochs = c.args.epochs.now in
    let i = c.loop-place.place in
    let line = c.as_bytes.result.now in
    let is = c.as_bytes.ensures.value ∙ c.deref.ensures.0 ∙ c.total_line.ensures in
    rw (p.1) (flows_cut _ _ _ _ _ _ (total_lines 0 epochs (watch_values ws)) i line
    (omega (arith, c.loop-place-test.true, total_count 0 epochs ws))
    (total_line_first epochs ws i c.index-watches-place.result line c.loop-place-test.true
    c.index-watches-place.is is)
    c.loop-place.invariant c.in_err-write_line.ensures)

pub returns : goal.returns
returns g c =
    let ws = c.args.watches.now in
    let epochs = c.args.epochs.now in
    flows_all _ _ _ _ (total_lines 0 epochs (watch_values ws)) c.loop-place.place
    (omega (arith, c.loop-place-test.false, total_count 0 epochs ws))
    c.loop-place.invariant
