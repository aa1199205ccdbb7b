-- The lines of bounds, one behind another.
use Rattle.std.proofs.Common.{◌≡◌, ℕ, suc, ◌-◌, ◌≤◌, Bool, true, false, List, [], ◌∷◌, ◌++◌, length, map, Some, refl, sym, ap, subst, ◌∙◌, arith}
use Rattle.std.specs.Prelude.{nat_lt}
use Rattle.std.specs.List.{flat_map, AllByRecursion}
use Rattle.std.proofs.lemmas.List.{map-append, append-nil}
use Rattle.std.proofs.lemmas.List.Concat.{flat_map-append}
use Rattle.sat_model.specs.declared.half_spaces.HalfSpace.{HalfSpace}
use Rattle.sat_model.specs.declared.row_sums.RowSum.{RowSum}
use Rattle.sat_model.specs.Bounds.{BoundValue}
use Rattle.log_lines.specs.declared.line.Form.TheVariants as form
use Rattle.log_lines.specs.declared.line.LogForm.{LogForm}
use Rattle.log_lines.specs.declared.line.LogLine.{LogLine}
use Rattle.log_lines.specs.declared.line.LogLine.TheVariants as line
use Rattle.log_lines.specs.declared.line.Place.{Place}
use Rattle.log_lines.specs.declared.line.Place.TheVariants as place
use Rattle.log_lines.specs.Order.{next}
use Rattle.log_lines.specs.Text.{first_line, bound_lines, BoundFits}
use Rattle.paving_log.specs.declared.lines.Lines.{Lines}
use Rattle.paving_log.specs.declared.lines.Opening.{Opening}
use Rattle.paving_log.specs.declared.log.Bound.{Bound}
use Rattle.paving_log.specs.Taking.{Takes, TakesWith, block_place}
use Rattle.paving_log.specs.Values.{bound_value}
use Rattle.paving_log.proofs.BlockLemmas.{leads_to, takes_one}
use Rattle.paving_log.proofs.LineLemmas.{takes_on}
use Rattle.log_lines.proofs.OrderLemmas.{only_place}

-- one sum more of a bound
pub sum_taken : (may : LogForm) (n left fewer : ℕ) (start old new : Lines) (sums pushed : List RowSum) (sum : RowSum) (l : LogLine) (to : Place)
    → Takes (place.Bounds may n) start (map line.By sums) (place.Bounds may left) old
    → l ≡ line.By sum → Takes (place.Bounds may left) old (l ∷ []) to new
    → pushed ≡ sums ++ sum ∷ [] → left ≡ suc fewer
    → Takes (place.Bounds may n) start (map line.By pushed) (place.Bounds may fewer) new
sum_taken may n left fewer start old new sums pushed sum l to before is taken push less =
    let one : Takes (place.Bounds may left) old (line.By sum ∷ []) to new = takes_one _ _ old l (line.By sum) to to new refl is refl taken in
    let down : left - 1 ≡ fewer = omega (arith, less) in
    let behind : to ≡ place.Bounds may fewer = only_place (nat_lt 0 left) (place.Bounds may (left - 1)) to (leads_to _ old _ to new one) ∙ ap (place.Bounds may) down in
    let mapped : map line.By sums ++ line.By sum ∷ [] ≡ map line.By pushed = sym (ap (map line.By) push ∙ map-append line.By sums (sum ∷ [])) in
    subst (λ (ls : List LogLine). Takes (place.Bounds may n) start ls (place.Bounds may fewer) new) mapped
    (subst (λ (p : Place). Takes (place.Bounds may n) start (map line.By sums ++ line.By sum ∷ []) p new) behind
    (takes_on _ _ _ start old new (map line.By sums) (line.By sum ∷ []) before one))

-- bounds that fit were taken from the front
pub record TakesBounds (may : LogForm) (start : Lines) (bounds : List BoundValue) (left : Lines) : Type 0 where
  pub taken : Takes (place.Bounds may 0) start (flat_map bound_lines bounds) (place.Bounds may 0) left
  pub fit : AllByRecursion BoundFits bounds

fit_on : (bounds : List BoundValue) (bound : BoundValue) → AllByRecursion BoundFits bounds
    → BoundFits bound → AllByRecursion BoundFits (bounds ++ bound ∷ [])
fit_on [] bound fit one = (one, tt)
fit_on (first ∷ bounds) bound fit one = (fit.0, fit_on bounds bound fit.1 one)

-- the line of a half-space, where it leads
pub one_bound : (may : LogForm) (old new : Lines) (half : HalfSpace) (n : ℕ) (l : LogLine) (to : Place)
    → l ≡ line.Bound half n → Takes (place.Bounds may 0) old (l ∷ []) to new
    → Takes (place.Bounds may 0) old (line.Bound half n ∷ []) (place.Bounds may n) new
one_bound may old new half n l to is taken =
    let one : Takes (place.Bounds may 0) old (line.Bound half n ∷ []) to new = takes_one _ _ old l (line.Bound half n) to to new refl is refl taken in
    takes_one _ _ old (line.Bound half n) (line.Bound half n) to (place.Bounds may n) new refl refl (only_place true (place.Bounds may n) to (leads_to _ old _ to new one)) one

-- the lines of one bound more
pub bound_taken : (may : LogForm) (start old mid new : Lines) (bounds pushed : List Bound) (bound : Bound) (n : ℕ) (l : LogLine) (to : Place)
    → TakesBounds may start (map bound_value bounds) old
    → l ≡ line.Bound bound.half n → Takes (place.Bounds may 0) old (l ∷ []) to mid
    → Takes (place.Bounds may n) mid (map line.By bound.sums.items) (place.Bounds may 0) new
    → length bound.sums.items ≡ n → pushed ≡ bounds ++ bound ∷ []
    → TakesBounds may start (map bound_value pushed) new
bound_taken may start old mid new bounds pushed bound n l to before is first later many push =
    let values = map bound_value bounds in
    let value = bound_value bound in
    let head : Takes (place.Bounds may 0) old (line.Bound bound.half n ∷ []) (place.Bounds may n) mid = one_bound may old mid bound.half n l to is first in
    let whole : Takes (place.Bounds may 0) old (line.Bound bound.half n ∷ map line.By bound.sums.items) (place.Bounds may 0) new =
    takes_on _ _ _ old mid new (line.Bound bound.half n ∷ []) (map line.By bound.sums.items) head later in
    let one : Takes (place.Bounds may 0) old (bound_lines value) (place.Bounds may 0) new =
    subst (λ (m : ℕ). Takes (place.Bounds may 0) old (line.Bound bound.half m ∷ map line.By bound.sums.items) (place.Bounds may 0) new) (sym many) whole in
    let grown : flat_map bound_lines values ++ bound_lines value ≡ flat_map bound_lines (values ++ value ∷ []) =
    ap (λ (ls : List LogLine). flat_map bound_lines values ++ ls) (sym (append-nil (bound_lines value)))
    ∙ sym (flat_map-append bound_lines values (value ∷ [])) in
    let all : values ++ value ∷ [] ≡ map bound_value pushed = sym (ap (map bound_value) push ∙ map-append bound_value bounds (bound ∷ [])) in
    subst (λ (bs : List BoundValue). TakesBounds may start bs new) all (record {
      taken = subst (λ (ls : List LogLine). Takes (place.Bounds may 0) start ls (place.Bounds may 0) new) grown
          (takes_on _ _ _ start old new (flat_map bound_lines values) (bound_lines value) before.taken one);
      fit = fit_on values value before.fit (subst (λ (m : ℕ). (1 ≤ m) × (m ≤ 64)) (sym many) head.leads.0);
    })

-- ---- the first line of the next block

to_few : (may : LogForm) (old new : Lines) (few : Bool) (o : Opening) (to : Place)
    → Takes (place.Bounds may 0) old (first_line o.few o.header ∷ []) to new → o.few ≡ few
    → to ≡ block_place (form.Log may) o.few o.header
to_few may old new few o to taken is = by_kind o.few (leads_to (place.Bounds may 0) old _ to new taken)
  where
    by_kind : (kind : Bool) → next (place.Bounds may 0) (first_line kind o.header) ≡ Some to
        → to ≡ block_place (form.Log may) kind o.header
    by_kind true e = cc
    by_kind false e = cc

pub next_taken : (may : LogForm) (start old new : Lines) (bounds : List BoundValue) (o : Opening) (l : LogLine) (to : Place)
    → TakesBounds may start bounds old → l ≡ first_line o.few o.header
    → Takes (place.Bounds may 0) old (l ∷ []) to new → old.number ≡ o.line
    → TakesWith (form.Log may) (place.Bounds may 0) start (flat_map bound_lines bounds) o new
next_taken may start old new bounds o l to before is taken number =
    let here : Takes (place.Bounds may 0) old (first_line o.few o.header ∷ []) to new = takes_one _ _ old l _ to to new refl is refl taken in
    let one : Takes (place.Bounds may 0) old (first_line o.few o.header ∷ []) (block_place (form.Log may) o.few o.header) new =
    takes_one _ _ old _ _ to _ new refl refl (to_few may old new o.few o to here refl) here in
    record {
      taken = takes_on _ _ _ start old new (flat_map bound_lines bounds) _ before.taken one;
      number = omega (arith, one.number);
    }
