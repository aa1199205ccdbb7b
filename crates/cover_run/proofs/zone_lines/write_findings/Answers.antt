use Rattle.std.proofs.Common.{◌∙◌, arith}
use Rattle.std.proofs.lemmas.Result.{err_from_is_err_and}
use Rattle.zone_guard.specs.WatchValues.{watch_values}
use Rattle.cover_run.proofs.ZoneLineLemmas.{finding_count, finding_line_at, flows_all, flows_cut}
use Rattle.cover_run.proofs.ZoneLineLemmas.{flows_first, flows_more}
use Rattle.cover_run.specs.ZoneTexts.{finding_lines}
use Rattle.cover_run.proofs.zone_lines.write_findings.Goals as goal

pub loop-place-init : goal.loop-place-init
loop-place-init g c =
    flows_first _ _ (finding_lines c.args.index (watch_values c.args.watches.now) c.args.found.now)

pub finding_at-finding-requires : goal.finding_at-finding-requires
finding_at-finding-requires g c = omega (arith, c.loop-place-test.true, c.requires)

pub loop-place-preserved : goal.loop-place-preserved
loop-place-preserved g c =
    let ws = c.args.watches.now in
    let found = c.args.found.now in
    let i = c.loop-place.place in
    let line = c.as_bytes.result.now in
    let is = c.as_bytes.ensures.value ∙ c.deref.ensures.0 ∙ c.finding_line.ensures in
    flows_more _ _ _ _ _ _ (finding_lines c.args.index (watch_values ws) found) i line
    (omega (arith, c.loop-place-test.true, finding_count c.args.index ws found c.requires))
    (finding_line_at c.args.index ws found i c.index-watches-place.result
    c.finding_at-finding.result line c.requires c.loop-place-test.true c.index-watches-place.is
    c.finding_at-finding.ensures is)
    c.loop-place.invariant c.in_ok-write_line.ensures

pub returns-in_err-write_line : goal.returns-in_err-write_line
returns-in_err-write_line g c =
    let p = err_from_is_err_and c.from_residual.result c.from_residual.ensures.1 in
    let ws = c.args.watches.now in
    let found = c.args.found.now in
    let i = c.loop-place.place in
    let line = c.as_bytes.result.now in
    let is = c.as_bytes.ensures.value ∙ c.deref.ensures.0 ∙ c.finding_line.ensures in
    rw (p.1) (flows_cut _ _ _ _ _ _ (finding_lines c.args.index (watch_values ws) found) i line
    (omega (arith, c.loop-place-test.true, finding_count c.args.index ws found c.requires))
    (finding_line_at c.args.index ws found i c.index-watches-place.result
    c.finding_at-finding.result line c.requires c.loop-place-test.true c.index-watches-place.is
    c.finding_at-finding.ensures is)
    c.loop-place.invariant c.in_err-write_line.ensures)

pub returns : goal.returns
returns g c =
    let ws = c.args.watches.now in
    let found = c.args.found.now in
    flows_all _ _ _ _ (finding_lines c.args.index (watch_values ws) found) c.loop-place.place
    (omega (arith, c.loop-place-test.false, finding_count c.args.index ws found c.requires))
    c.loop-place.invariant
