use Rattle.std.proofs.Common.{sym, ◌∙◌}
use Rattle.std.proofs.lemmas.Bool.{false≢true}
use Rattle.gnss_model.specs.Delays.{is_plain}
use Rattle.grid_model.specs.Boxes.{span_side}
use Rattle.paving_log_check.proofs.SatLineLemmas.{bounds_held, high_narrow}
use Rattle.paving_log_check.proofs.sat_lines.first_narrow_bounds.Goals as goal

pub returns-then-not-holds_span-2 : goal.returns-then-not-holds_span-2
returns-then-not-holds_span-2 c = high_narrow c.args.row.now c.args.ours.now
    (span_side c.low_bounds-low.result) (span_side c.low_bounds-own_low.result) (span_side c.high_bounds-high.result) (span_side c.high_bounds-own_high.result)
    c.low_bounds-low.ensures c.low_bounds-own_low.ensures c.high_bounds-high.ensures c.high_bounds-own_high.ensures
    (c.holds_span.ensures.0 c.if-not-holds_span.false) (is_plain c.args.delays) (sym c.is_plain.ensures ∙ c.if-is_plain.false)
    (λ holds. false≢true (sym c.if-not-holds_span-2.true ∙ c.holds_span-2.ensures.1 holds))

pub returns : goal.returns
returns c = bounds_held c.args.row.now c.args.ours.now
    (span_side c.low_bounds-low.result) (span_side c.low_bounds-own_low.result) (span_side c.high_bounds-high.result) (span_side c.high_bounds-own_high.result)
    c.low_bounds-low.ensures c.low_bounds-own_low.ensures c.high_bounds-high.ensures c.high_bounds-own_high.ensures
    (c.holds_span.ensures.0 c.if-not-holds_span.false) (is_plain c.args.delays) (sym c.is_plain.ensures ∙ c.if-is_plain.false)
    (c.holds_span-2.ensures.0 c.if-not-holds_span-2.false)
