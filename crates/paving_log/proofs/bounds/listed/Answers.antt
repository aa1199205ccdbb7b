use Rattle.std.proofs.Common.{[], ◌∷◌, ◌++◌, map, refl, true, false}
use Rattle.std.proofs.lemmas.Result.{err_from_is_err_and}
use Rattle.std.specs.List.{flat_map}
use Rattle.log_lines.specs.declared.line.LogLine.TheVariants as line
use Rattle.log_lines.specs.declared.line.Place.TheVariants as place
use Rattle.log_lines.specs.Text.{bound_lines}
use Rattle.paving_log.specs.Values.{bound_value}
use Rattle.paving_log.proofs.BoundLemmas.{one_bound, bound_taken, next_taken}
use Rattle.paving_log.proofs.LineLemmas.{takes_on, refuses_behind}
use Rattle.paving_log.proofs.bounds.listed.Goals as goal

pub returns-in_err-sums-in-Bound-clause-refused : goal.returns-in_err-sums-in-Bound-clause-refused
returns-in_err-sums-in-Bound-clause-refused c =
    let p = err_from_is_err_and c.from_residual-in_err-sums-in-Bound.result c.from_residual-in_err-sums-in-Bound.ensures.1 in
    let start = place.Bounds c.args.form 0 in
    let sums = place.Bounds c.args.form c.in-Bound.count in
    let lines = flat_map bound_lines (map bound_value c.bounds.bounds.items) in
    let first = one_bound c.args.form c.bounds.left c.in_ok-line.behind c.in-Bound.half c.in-Bound.count c.in_ok-line.line c.in_ok-line.field-0-1 c.in-Bound.is c.in_ok-line.ensures.taken in
    let taken = takes_on start start sums c.args.lines c.bounds.left c.in_ok-line.behind lines (line.Bound c.in-Bound.half c.in-Bound.count ∷ []) c.bounds.invariant.taken first in
    rw (p.1, p.2) (refuses_behind start sums c.args.lines c.in_ok-line.behind (lines ++ line.Bound c.in-Bound.half c.in-Bound.count ∷ []) _ taken (rw c.from.ensures at c.in_err-sums-in-Bound.ensures.refused))

pub bounds-preserved : goal.bounds-preserved
bounds-preserved c =
    bound_taken c.args.form c.args.lines c.bounds.left c.in_ok-line.behind c.in_ok-sums-in-Bound.behind c.bounds.bounds.items c.push.new.self.items
    (record { half = c.in-Bound.half; sums = c.in_ok-sums-in-Bound.sums }) c.in-Bound.count c.in_ok-line.line c.in_ok-line.field-0-1
    c.bounds.invariant c.in-Bound.is c.in_ok-line.ensures.taken (rw c.from.ensures at c.in_ok-sums-in-Bound.ensures.taken) (rw c.from.ensures at c.in_ok-sums-in-Bound.ensures.many) c.in_ok-push-in-Bound.ensures.items

pub returns-in-Few-clause-taken : goal.returns-in-Few-clause-taken
returns-in-Few-clause-taken c =
    next_taken c.args.form c.args.lines c.bounds.left c.in_ok-line.behind (map bound_value c.bounds.bounds.items) (record { few = true; header = c.in-Few.header; line = c.bounds.left.number })
    c.in_ok-line.line c.in_ok-line.field-0-1 c.bounds.invariant c.in-Few.is c.in_ok-line.ensures.taken refl

pub returns-in-Epoch-clause-taken : goal.returns-in-Epoch-clause-taken
returns-in-Epoch-clause-taken c =
    next_taken c.args.form c.args.lines c.bounds.left c.in_ok-line.behind (map bound_value c.bounds.bounds.items) (record { few = false; header = c.in-Epoch.header; line = c.bounds.left.number })
    c.in_ok-line.line c.in_ok-line.field-0-1 c.bounds.invariant c.in-Epoch.is c.in_ok-line.ensures.taken refl
