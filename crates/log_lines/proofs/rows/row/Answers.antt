-- Where a field isn't read, no row has these words: each field before it has taken its own.
use Rattle.std.proofs.Common.{◌≡◌, ℕ, List, ◌++◌, refl}
use Rattle.log_tokens.specs.Fields.{span_words, sat_words}
use Rattle.log_tokens.proofs.WordLemmas.{same_rest}
use Rattle.log_lines.specs.Rows.{sure_words, AreSure, error_words, row_words}
use Rattle.log_lines.proofs.SureLemmas.{none_behind}
use Rattle.log_lines.proofs.rows.row.Goals as goal
use Rattle.sat_model.specs.declared.rows.Row.{Row}
use Rattle.gnss_model.specs.declared.satellites.Sat.{Sat}
use Rattle.grid_model.specs.declared.spans.Span.{Span}

-- the words of a row from a field on
abbrev from_range : Row → List (List ℕ)
from_range r = span_words r.range ++ error_words r

abbrev from_z : Row → List (List ℕ)
from_z r = span_words r.z ++ from_range r

abbrev from_y : Row → List (List ℕ)
from_y r = span_words r.y ++ from_z r

abbrev from_x : Row → List (List ℕ)
from_x r = span_words r.x ++ from_y r

-- what stands behind a satellite that was read, and behind a span
behind_sat : (line rest : List (List ℕ)) (sat : Sat) (r : Row) → line ≡ sat_words sat ++ rest
    → line ≡ row_words r → rest ≡ from_x r
behind_sat line rest sat r e f = same_rest line (sat_words sat) (sat_words r.sat) rest (from_x r) refl e f

behind : (line rest more : List (List ℕ)) (a b : Span) → line ≡ span_words a ++ rest
    → line ≡ span_words b ++ more → rest ≡ more
behind line rest more a b e f = same_rest line (span_words a) (span_words b) rest more refl e f

pub returns-in_err-sat : goal.returns-in_err-sat
returns-in_err-sat c = rw c.from_residual.ensures (λ r fits line. c.in_err-sat.ensures r.sat (from_x r) fits line)

pub returns-in_err-x : goal.returns-in_err-x
returns-in_err-x c = rw c.from_residual-in_err-x.ensures (λ r fits line.
    let at_x = behind_sat _ _ c.in_ok-sat.sat r c.in_ok-sat.ensures.1 line in
    c.in_err-x.ensures r.x (from_y r) r.x_within at_x)

pub returns-in_err-y : goal.returns-in_err-y
returns-in_err-y c = rw c.from_residual-in_err-y.ensures (λ r fits line.
    let at_x = behind_sat _ _ c.in_ok-sat.sat r c.in_ok-sat.ensures.1 line in
    let at_y = behind _ _ (from_y r) c.in_ok-x.x r.x c.in_ok-x.ensures.1 at_x in
    c.in_err-y.ensures r.y (from_z r) r.y_within at_y)

pub returns-in_err-z : goal.returns-in_err-z
returns-in_err-z c = rw c.from_residual-in_err-z.ensures (λ r fits line.
    let at_x = behind_sat _ _ c.in_ok-sat.sat r c.in_ok-sat.ensures.1 line in
    let at_y = behind _ _ (from_y r) c.in_ok-x.x r.x c.in_ok-x.ensures.1 at_x in
    let at_z = behind _ _ (from_z r) c.in_ok-y.y r.y c.in_ok-y.ensures.1 at_y in
    c.in_err-z.ensures r.z (from_range r) r.z_within at_z)

pub returns-in_err-range : goal.returns-in_err-range
returns-in_err-range c = rw c.from_residual-in_err-range.ensures (λ r fits line.
    let at_x = behind_sat _ _ c.in_ok-sat.sat r c.in_ok-sat.ensures.1 line in
    let at_y = behind _ _ (from_y r) c.in_ok-x.x r.x c.in_ok-x.ensures.1 at_x in
    let at_z = behind _ _ (from_z r) c.in_ok-y.y r.y c.in_ok-y.ensures.1 at_y in
    let at_range = behind _ _ (from_range r) c.in_ok-z.z r.z c.in_ok-z.ensures.1 at_z in
    c.in_err-range.ensures r.range (error_words r) r.range_within at_range)

pub returns-in_err-err : goal.returns-in_err-err
returns-in_err-err c = rw c.from_residual-in_err-err.ensures (λ r fits line.
    let at_x = behind_sat _ _ c.in_ok-sat.sat r c.in_ok-sat.ensures.1 line in
    let at_y = behind _ _ (from_y r) c.in_ok-x.x r.x c.in_ok-x.ensures.1 at_x in
    let at_z = behind _ _ (from_z r) c.in_ok-y.y r.y c.in_ok-y.ensures.1 at_y in
    let at_range = behind _ _ (from_range r) c.in_ok-z.z r.z c.in_ok-z.ensures.1 at_z in
    let at_err = behind _ _ (error_words r) c.in_ok-range.range r.range c.in_ok-range.ensures.1 at_range in
    c.in_err-err.ensures r.err (sure_words r.err r.sure_lo r.sure_hi) r.err_within at_err)

pub returns-in_err-sure_lo : goal.returns-in_err-sure_lo
returns-in_err-sure_lo c = rw c.from_residual-in_err-sure_lo.ensures (λ r fits line.
    let at_x = behind_sat _ _ c.in_ok-sat.sat r c.in_ok-sat.ensures.1 line in
    let at_y = behind _ _ (from_y r) c.in_ok-x.x r.x c.in_ok-x.ensures.1 at_x in
    let at_z = behind _ _ (from_z r) c.in_ok-y.y r.y c.in_ok-y.ensures.1 at_y in
    let at_range = behind _ _ (from_range r) c.in_ok-z.z r.z c.in_ok-z.ensures.1 at_z in
    let at_err = behind _ _ (error_words r) c.in_ok-range.range r.range c.in_ok-range.ensures.1 at_range in
    let sure : AreSure r.err r.sure_lo r.sure_hi = record { lo_within = r.sure_within.0; hi_within = r.sure_within.1; low_ordered = r.low_ordered; high_ordered = r.high_ordered } in
    none_behind _ _ c.in_ok-err.err r.err r.sure_lo r.sure_hi c.in_ok-err.ensures.0 r.err_within c.in_ok-err.ensures.1 at_err sure (λ ends are left. c.in_err-sure_lo.ensures ends are left))
