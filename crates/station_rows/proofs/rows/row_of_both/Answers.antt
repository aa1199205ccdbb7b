use Rattle.std.proofs.Common.{refl, subst}
use Rattle.std.specs.Prelude.{pos, ◌-ℤ◌}
use Rattle.sat_model.specs.Relaxed.{ends}
use Rattle.grid_model.specs.declared.spans.Span.{Span}
use Rattle.sat_rows.specs.Chains.{Chain}
use Rattle.sat_rows.specs.OwnRows.{HasBounds}
use Rattle.station_rows.proofs.DifferenceLemmas.{plain, plain_bound, errors_apart, possible_by}
use Rattle.station_rows.proofs.rows.row_of_both.Goals as goal

pub returns-clause-possible : goal.returns-clause-possible
returns-clause-possible c p offset station_offset inside e =
    let declared = ends c.args.declared in
    let chain : Chain = record { x = e.x; y = e.y; z = e.z; corrected = e.corrected -ℤ e.residual; range = e.range; lo = declared.0; hi = declared.1 } in
    let comes = c.base_of_both-base.ensures.holds plain p chain (
      record { corrected = e.corrected; receiver = e.value; residual = e.residual; station = e.station; difference_is = refl },
      plain_bound declared p e.x e.y e.z (e.corrected -ℤ e.residual) e.range,
    ) in
    let held = c.renewed.ensures.holds p chain inside comes in
    possible_by c.renewed.result p (offset -ℤ station_offset) chain held e.value.turn.range_is
    (errors_apart e.corrected (pos e.range) offset e.residual station_offset declared.0 declared.1 e.between)

pub returns-clause-bounds : goal.returns-clause-bounds
returns-clause-bounds c = subst (λ (s : Span). HasBounds c.renewed.result (ends s)) c.base_of_both-base.ensures.err (c.renewed.ensures.plain refl)
