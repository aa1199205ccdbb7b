-- What lines that lead from place to place say of their fields.
use Rattle.std.proofs.Common.{◌≡◌, ℕ, ◌+◌, ◌-◌, ◌≤◌, Bool, true, false, List, [], ◌∷◌, ◌++◌, length, map, Some, None, sym, subst, arith}
use Rattle.std.specs.Prelude.{Option}
use Rattle.std.specs.List.{AllByRecursion}
use Rattle.std.proofs.lemmas.List.{append-nil}
use Rattle.grid_model.specs.Boxes.{GridBox}
use Rattle.sat_model.specs.declared.rows.Row.{Row}
use Rattle.sat_model.specs.declared.steps.Step.{Step}
use Rattle.sat_model.specs.Events.{Event, Made, Renewed, rows_over}
use Rattle.log_lines.specs.declared.line.Corners.{Corners}
use Rattle.sat_model.specs.declared.rows.SatEntry.{SatEntry}
use Rattle.log_lines.specs.declared.line.Form.{Form}
use Rattle.log_lines.specs.declared.line.Header.{Header}
use Rattle.log_lines.specs.declared.line.LogForm.{LogForm}
use Rattle.log_lines.specs.declared.line.LogLine.{LogLine}
use Rattle.log_lines.specs.declared.line.LogLine.TheVariants as line
use Rattle.log_lines.specs.declared.line.Place.{Place}
use Rattle.log_lines.specs.declared.line.Place.TheVariants as place
use Rattle.paving_log.specs.declared.lines.Lines.{Lines}
use Rattle.paving_log.specs.declared.lines.Opening.{Opening}
use Rattle.log_lines.specs.Lines.{HeaderFits, LineFits}
use Rattle.log_lines.specs.Order.{Leads}
use Rattle.log_lines.specs.Rows.{RowFits, EntryFits, CornersFit, corners_of}
use Rattle.log_lines.specs.Text.{first_line, row_line, IsSkipped, EventFits}
use Rattle.paving_log.specs.Taking.{Takes, TakesTo}
use Rattle.paving_log.proofs.BlockLemmas.{TakesEvents, behind_few, behind_sat, behind_row, behind_renew, event_on, renewal_taken}

pub record FewParts (f : Form) (k : ℕ) (sats : List SatEntry) (tail : List LogLine) (to : Place) : Type 0 where
  pub fit : AllByRecursion EntryFits sats
  pub skipped : AllByRecursion IsSkipped sats
  pub at_most : k + length sats ≤ 64
  pub rest : Leads (place.Few f (k + length sats)) tail to

pub few_parts : (f : Form) (k : ℕ) (sats : List SatEntry) (tail : List LogLine) (to : Place)
    → k ≤ 64 → Leads (place.Few f k) (map line.Sat sats ++ tail) to → FewParts f k sats tail to
few_parts f k [] tail to le leads = record {
  fit = tt;
  skipped = tt;
  at_most = omega arith;
  rest = let same : k ≡ k + 0 = omega arith in subst (λ (n : ℕ). Leads (place.Few f n) tail to) same leads;
}
few_parts f k (e ∷ sats) tail to le leads =
    let one = behind_few f k e leads.1 leads.2 in
    let later = few_parts f (k + 1) sats tail to (omega (arith, one.more.below)) (subst (λ (p : Place). Leads p (map line.Sat sats ++ tail) to) one.more.place leads.3) in
    let same : k + 1 + length sats ≡ k + length (e ∷ sats) = omega arith in
    record {
      fit = (leads.0, later.fit);
      skipped = (one.skipped, later.skipped);
      at_most = omega (arith, later.at_most);
      rest = subst (λ (n : ℕ). Leads (place.Few f n) tail to) same later.rest;
    }

pub record SatParts (f : Form) (n k : ℕ) (sats : List SatEntry) (tail : List LogLine) (to : Place) : Type 0 where
  pub fit : AllByRecursion EntryFits sats
  pub at_most : k + length sats ≤ 64
  pub rest : Leads (place.Satellites f n (k + length sats)) tail to

pub sat_parts : (f : Form) (n k : ℕ) (sats : List SatEntry) (tail : List LogLine) (to : Place)
    → k ≤ 64 → Leads (place.Satellites f n k) (map line.Sat sats ++ tail) to
    → SatParts f n k sats tail to
sat_parts f n k [] tail to le leads = record {
  fit = tt;
  at_most = omega arith;
  rest = let same : k ≡ k + 0 = omega arith in subst (λ (m : ℕ). Leads (place.Satellites f n m) tail to) same leads;
}
sat_parts f n k (e ∷ sats) tail to le leads =
    let one = behind_sat f n k e leads.1 leads.2 in
    let later = sat_parts f n (k + 1) sats tail to (omega (arith, one.below)) (subst (λ (p : Place). Leads p (map line.Sat sats ++ tail) to) one.place leads.3) in
    let same : k + 1 + length sats ≡ k + length (e ∷ sats) = omega arith in
    record {
      fit = (leads.0, later.fit);
      at_most = omega (arith, later.at_most);
      rest = subst (λ (m : ℕ). Leads (place.Satellites f n m) tail to) same later.rest;
    }

-- the rows of a renewal
pub rows_parts : (may : LogForm) (n left : ℕ) (rows : List Row) (to : Place)
    → Leads (place.Steps may n left) (map row_line rows) to → AllByRecursion RowFits rows
rows_parts may n left [] to leads = tt
rows_parts may n left (row ∷ rows) to leads =
    (leads.0, rows_parts may n (left - 1) rows to (subst (λ (p : Place). Leads p (map row_line rows) to) (behind_row may n left row leads.1 leads.2) leads.3))

-- the satellites of a block of few
pub few_fit : (f : Form) (start new : Lines) (sats : List SatEntry) (next : Option Opening)
    → TakesTo f (place.Few f 0) start (map line.Sat sats) next new
    → AllByRecursion EntryFits sats × AllByRecursion IsSkipped sats
few_fit f start new sats None taken =
    let parts = few_parts f 0 sats [] taken.to (omega arith) (subst (λ (ls : List LogLine). Leads (place.Few f 0) ls taken.to) (sym (append-nil (map line.Sat sats))) taken.taken.leads) in
    (parts.fit, parts.skipped)
few_fit f start new sats (Some o) taken =
    let parts = few_parts f 0 sats (first_line o.few o.header ∷ []) _ (omega arith) taken.taken.leads in
    (parts.fit, parts.skipped)

-- the last line fits
last_fits : (at to : Place) (lines : List LogLine) (l : LogLine) → Leads at (lines ++ l ∷ []) to
    → LineFits l
last_fits at to [] l leads = leads.0
last_fits at to (m ∷ lines) l leads = last_fits leads.1 to lines l leads.3

header_fits : (few : Bool) (h : Header) → LineFits (first_line few h) → HeaderFits h
header_fits true h fits = fits
header_fits false h fits = fits

pub opening_fits : (f : Form) (at : Place) (start new : Lines) (lines : List LogLine) (o : Opening)
    → TakesTo f at start lines (Some o) new → HeaderFits o.header
opening_fits f at start new lines o taken = header_fits o.few o.header (last_fits at _ lines _ taken.taken.leads)

-- ---- steps and renewals

pub step_more : (may : LogForm) (n : ℕ) (start old new : Lines) (events pushed : List Event) (s : Step)
    → TakesEvents may n start events old
    → Takes (place.Steps may n 0) old (line.Step s ∷ []) (place.Steps may n 0) new
    → pushed ≡ events ++ Made s ∷ [] → TakesEvents may n start pushed new
step_more may n start old new events pushed s before one push = event_on may n start old new events pushed (Made s) before one one.leads.0 push

pub renewal_more : (may : LogForm) (n : ℕ) (start old mid new : Lines) (events pushed : List Event) (part : GridBox) (rows : List Row) (c : Corners)
    → corners_of part ≡ c
    → TakesEvents may n start events old
    → Takes (place.Steps may n 0) old (line.Renew c ∷ []) (place.Steps may n n) mid
    → Takes (place.Steps may n n) mid (map row_line rows) (place.Steps may n 0) new
    → length rows ≡ n → pushed ≡ events ++ Renewed (rows_over part rows) ∷ []
    → TakesEvents may n start pushed new
renewal_more may n start old mid new events pushed part rows c same before first later many push =
    let allowed = (behind_renew may n c first.leads.1 first.leads.2).0 in
    let fits : EventFits may.renews n (Renewed (rows_over part rows)) = (allowed, subst CornersFit (sym same) first.leads.0, many, rows_parts may n n rows _ later.leads) in
    event_on may n start old new events pushed (Renewed (rows_over part rows)) before (renewal_taken may n old mid new part rows c same first later) fits push
