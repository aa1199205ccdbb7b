-- The lines of a log that fits lead from the first place to an end.
use Rattle.std.proofs.Common.{◌≡◌, ℕ, ◌+◌, ◌-◌, ◌<◌, ◌≤◌, Bool, true, false, ◌&&◌, List, [], ◌∷◌, ◌++◌, length, map, Some, None, refl, sym, ap, subst, ◌∙◌, append_assoc, arith}
use Rattle.std.specs.Prelude.{Option, is_none, nat_lt, if◌then◌else◌}
use Rattle.std.specs.List.{flat_map, AllByRecursion}
use Rattle.std.proofs.lemmas.Bool.{lt-ltb}
use Rattle.sat_model.specs.declared.rows.Row.{Row}
use Rattle.sat_model.specs.declared.rows.SatEntry.{SatEntry}
use Rattle.sat_model.specs.declared.rows.SatEntry.TheVariants as entry
use Rattle.sat_model.specs.declared.row_sums.RowSum.{RowSum}
use Rattle.sat_model.specs.Bounds.{BoundValue}
use Rattle.sat_model.specs.Events.{Event, Made, Renewed}
use Rattle.sat_model.specs.Logs.{Body, Block, LogValue, is_few}
use Rattle.log_lines.specs.declared.line.Form.{Form}
use Rattle.log_lines.specs.declared.line.Form.TheVariants as form
use Rattle.log_lines.specs.declared.line.Header.{Header}
use Rattle.log_lines.specs.declared.line.Kind.{Kind}
use Rattle.log_lines.specs.declared.line.LogForm.{LogForm}
use Rattle.log_lines.specs.declared.line.LogLine.{LogLine}
use Rattle.log_lines.specs.declared.line.LogLine.TheVariants as line
use Rattle.log_lines.specs.declared.line.Place.{Place}
use Rattle.log_lines.specs.declared.line.Place.TheVariants as place
use Rattle.log_lines.specs.Lines.{HeaderFits, LineFits}
use Rattle.log_lines.specs.Order.{has_version, form_of, only_if, next, place_behind_root, place_behind_done, may_end, Leads}
use Rattle.log_lines.specs.Rows.{RowFits, EntryFits, corners_of}
use Rattle.log_lines.specs.Text.{first_line, header_of, row_line, event_lines, bound_lines, closing_lines, paved_lines, block_lines, log_lines, IsSkipped, EventFits, BoundsFit, ClosingFits, BodyFits, BlockFits, LogFits}
use Rattle.paving_log.specs.Taking.{place_behind_steps, block_place}
use Rattle.log_lines.proofs.OrderLemmas.{given}

below : (k : ℕ) (after : Place) → k < 64 → only_if (nat_lt k 64) after ≡ Some after
below k after lt = given (nat_lt k 64) after (lt-ltb k 64 lt)

few_next : (f : Form) (k : ℕ) (e : SatEntry) → IsSkipped e → k < 64
    → next (place.Few f k) (line.Sat e) ≡ Some (place.Few f (k + 1))
few_next f k (entry.Row r) skipped lt = absurd skipped
few_next f k (entry.Skipped sat skip) skipped lt = below k _ lt

few_lead : (f : Form) (k : ℕ) (sats : List SatEntry) (tail : List LogLine) (to : Place)
    → AllByRecursion EntryFits sats → AllByRecursion IsSkipped sats → k + length sats ≤ 64
    → Leads (place.Few f (k + length sats)) tail to
    → Leads (place.Few f k) (map line.Sat sats ++ tail) to
few_lead f k [] tail to fit skipped le leads = let same : k + 0 ≡ k = omega arith in subst (λ (n : ℕ). Leads (place.Few f n) tail to) same leads
few_lead f k (e ∷ sats) tail to fit skipped le leads =
    let same : k + length (e ∷ sats) ≡ k + 1 + length sats = omega arith in
    (fit.0, place.Few f (k + 1), few_next f k e skipped.0 (omega arith), few_lead f (k + 1) sats tail to fit.1 skipped.1 (omega arith) (subst (λ (n : ℕ). Leads (place.Few f n) tail to) same leads))

sat_lead : (f : Form) (n k : ℕ) (sats : List SatEntry) (tail : List LogLine) (to : Place)
    → AllByRecursion EntryFits sats → k + length sats ≤ 64
    → Leads (place.Satellites f n (k + length sats)) tail to
    → Leads (place.Satellites f n k) (map line.Sat sats ++ tail) to
sat_lead f n k [] tail to fit le leads = let same : k + 0 ≡ k = omega arith in subst (λ (m : ℕ). Leads (place.Satellites f n m) tail to) same leads
sat_lead f n k (e ∷ sats) tail to fit le leads =
    let same : k + length (e ∷ sats) ≡ k + 1 + length sats = omega arith in
    (fit.0, place.Satellites f n (k + 1), below k _ (omega arith), sat_lead f n (k + 1) sats tail to fit.1 (omega arith) (subst (λ (m : ℕ). Leads (place.Satellites f n m) tail to) same leads))

rows_lead : (may : LogForm) (n : ℕ) (rows : List Row) (tail : List LogLine) (to : Place)
    → AllByRecursion RowFits rows → Leads (place.Steps may n 0) tail to
    → Leads (place.Steps may n (length rows)) (map row_line rows ++ tail) to
rows_lead may n [] tail to fit leads = leads
rows_lead may n (row ∷ rows) tail to fit leads =
    let less : length (row ∷ rows) - 1 ≡ length rows = omega arith in
    let step : next (place.Steps may n (length (row ∷ rows))) (row_line row) ≡ Some (place.Steps may n (length rows)) =
    given _ _ (lt-ltb 0 (length (row ∷ rows)) (omega arith)) ∙ ap (λ (m : ℕ). Some (place.Steps may n m)) less in
    (fit.0, place.Steps may n (length rows), step, rows_lead may n rows tail to fit.1 leads)

event_lead : (may : LogForm) (n : ℕ) (event : Event) (tail : List LogLine) (to : Place)
    → EventFits may.renews n event → Leads (place.Steps may n 0) tail to
    → Leads (place.Steps may n 0) (event_lines event ++ tail) to
event_lead may n (Made step) tail to fits leads = (fits, place.Steps may n 0, refl, leads)
event_lead may n (Renewed new) tail to fits leads =
    let allowed : next (place.Steps may n 0) (line.Renew (corners_of new.part)) ≡ Some (place.Steps may n n) = given (may.renews && true) _ (ap (λ (b : Bool). b && true) fits.0) in
    let rows = subst (λ (m : ℕ). Leads (place.Steps may n m) (map row_line new.rows ++ tail) to) fits.2 (rows_lead may n new.rows tail to fits.3 leads) in
    (fits.1, place.Steps may n n, allowed, rows)

events_lead : (may : LogForm) (n : ℕ) (events : List Event) (tail : List LogLine) (to : Place)
    → AllByRecursion (EventFits may.renews n) events → Leads (place.Steps may n 0) tail to
    → Leads (place.Steps may n 0) (flat_map event_lines events ++ tail) to
events_lead may n [] tail to fit leads = leads
events_lead may n (event ∷ events) tail to fit leads =
    subst (λ (ls : List LogLine). Leads (place.Steps may n 0) ls to) (sym (append_assoc (event_lines event) (flat_map event_lines events) tail))
    (event_lead may n event (flat_map event_lines events ++ tail) to fit.0 (events_lead may n events tail to fit.1 leads))

-- a block may begin at the place, and the text may end
record IsBetween (f : Form) (at : Place) : Type 0 where
  may_end : may_end at ≡ true
  next : (few : Bool) (h : Header) → next at (first_line few h) ≡ Some (block_place f few h)

between : (f : Form) → IsBetween f (place.Between f)
between f = record { may_end = refl; next = first }
  where
    first : (few : Bool) (h : Header)
        → next (place.Between f) (first_line few h) ≡ Some (block_place f few h)
    first true h = refl
    first false h = refl

behind_skips : (f : Form) (k : ℕ) → IsBetween f (place.Few f k)
behind_skips f k = record { may_end = refl; next = first }
  where
    first : (few : Bool) (h : Header)
        → next (place.Few f k) (first_line few h) ≡ Some (block_place f few h)
    first true h = refl
    first false h = refl

-- where there may be bounds, and where there may be none
behind_done : (may : LogForm) → IsBetween (form.Log may) (place_behind_done may)
behind_done may = by_kind may.bounds
  where
    first : (few : Bool) (h : Header)
        → next (place.Bounds may 0) (first_line few h) ≡ Some (block_place (form.Log may) few h)
    first true h = refl
    first false h = refl

    by_kind : (bounds : Bool)
        → IsBetween (form.Log may) (if bounds then place.Bounds may 0 else place.Between (form.Log may))
    by_kind true = record { may_end = refl; next = first }
    by_kind false = between (form.Log may)

behind_steps : (f : Form) → IsBetween f (place_behind_steps f)
behind_steps (form.Log may) = behind_done may
behind_steps form.Rows = between form.Rows

-- ---- bounds

sums_lead : (may : LogForm) (sums : List RowSum) (tail : List LogLine) (to : Place)
    → Leads (place.Bounds may 0) tail to
    → Leads (place.Bounds may (length sums)) (map line.By sums ++ tail) to
sums_lead may [] tail to leads = leads
sums_lead may (sum ∷ sums) tail to leads =
    let less : length (sum ∷ sums) - 1 ≡ length sums = omega arith in
    let step : next (place.Bounds may (length (sum ∷ sums))) (line.By sum) ≡ Some (place.Bounds may (length sums)) =
    given _ _ (lt-ltb 0 (length (sum ∷ sums)) (omega arith)) ∙ ap (λ (m : ℕ). Some (place.Bounds may m)) less in
    (tt, place.Bounds may (length sums), step, sums_lead may sums tail to leads)

bounds_lead : (may : LogForm) (some : Bool) (bounds : List BoundValue) (tail : List LogLine) (to : Place)
    → BoundsFit some bounds
    → Leads (if some then place.Bounds may 0 else place.Between (form.Log may)) tail to
    → Leads (if some then place.Bounds may 0 else place.Between (form.Log may)) (flat_map bound_lines bounds ++ tail) to
bounds_lead may false bounds tail to fit leads = rw fit leads
bounds_lead may true [] tail to fit leads = leads
bounds_lead may true (bound ∷ more) tail to fit leads =
    let later = bounds_lead may true more tail to fit.1 leads in
    subst (λ (ls : List LogLine). Leads (place.Bounds may 0) ls to) (sym (append_assoc (bound_lines bound) (flat_map bound_lines more) tail))
    (fit.0, place.Bounds may (length bound.sums), refl, sums_lead may bound.sums (flat_map bound_lines more ++ tail) to later)

-- where a block leads
record BlockLeads (f : Form) (from : Place) (lines : List LogLine) : Type 0 where
  to : Place
  between : IsBetween f to
  leads : (tail : List LogLine) (end : Place) → Leads to tail end → Leads from (lines ++ tail) end

-- what stands behind a root leads to the next block
closing_lead : (f : Form) (n : ℕ) (events : List Event) (done : ℕ) (bounds : List BoundValue) (tail : List LogLine) (to : Place)
    → ClosingFits f n events done bounds → Leads (place_behind_steps f) tail to
    → Leads (place_behind_root f n) (closing_lines f events done bounds ++ tail) to
closing_lead (form.Log may) n events done bounds tail to fits leads =
    let later = bounds_lead may may.bounds bounds tail to fits.2 leads in
    subst (λ (ls : List LogLine). Leads (place.Steps may n 0) ls to)
    (sym (append_assoc (flat_map event_lines events) (line.Done done ∷ flat_map bound_lines bounds) tail))
    (events_lead may n events (line.Done done ∷ (flat_map bound_lines bounds ++ tail)) to fits.0 (fits.1, place_behind_done may, refl, later))
closing_lead form.Rows n events done bounds tail to fits leads = leads

body_leads : (f : Form) (b : Block) (body : Option Body) → AllByRecursion EntryFits b.sats
    → length b.sats ≤ 64 → BodyFits f b body
    → BlockLeads f (block_place f (is_none body) (header_of b)) (map line.Sat b.sats ++ paved_lines f body)
body_leads f b None fit le skipped = record {
  to = place.Few f (0 + length b.sats);
  between = behind_skips f (0 + length b.sats);
  leads = λ tail end leads.
      subst (λ (ls : List LogLine). Leads (place.Few f 0) ls end) (sym (append_assoc (map line.Sat b.sats) [] tail))
      (few_lead f 0 b.sats tail end fit skipped (omega arith) leads);
}
body_leads f b (Some body) fit le fits = record {
  to = place_behind_steps f;
  between = behind_steps f;
  leads = λ tail end leads.
      let last = closing_lines f body.events body.done body.bounds in
      let closing = closing_lead f b.n body.events body.done body.bounds tail end fits.1 leads in
      let paved : Leads (place.Satellites f b.n (0 + length b.sats)) (line.Root (corners_of body.root) ∷ (last ++ tail)) end = (fits.0, place_behind_root f b.n, refl, closing) in
      let whole = sat_lead f b.n 0 b.sats _ end fit (omega arith) paved in
      subst (λ (ls : List LogLine). Leads (place.Satellites f b.n 0) ls end) (sym (append_assoc (map line.Sat b.sats) (line.Root (corners_of body.root) ∷ last) tail)) whole;
}

pub first_fits : (few : Bool) (h : Header) → HeaderFits h → LineFits (first_line few h)
first_fits true h fits = fits
first_fits false h fits = fits

-- lines that lead to an end
pub record LeadsToEnd (at : Place) (lines : List LogLine) : Type 0 where
  pub to : Place
  pub may_end : may_end to ≡ true
  pub leads : Leads at lines to

blocks_lead : (f : Form) (blocks : List Block) (at : Place) → IsBetween f at
    → AllByRecursion (BlockFits f) blocks → LeadsToEnd at (flat_map (block_lines f) blocks)
blocks_lead f [] at here fit = record { to = at; may_end = here.may_end; leads = refl }
blocks_lead f (b ∷ blocks) at here fit =
    let body = body_leads f b b.body fit.0.sats fit.0.at_most fit.0.body in
    let later = blocks_lead f blocks body.to body.between fit.1 in
    record {
      to = later.to;
      may_end = later.may_end;
      leads = (first_fits (is_few b) (header_of b) fit.0.header, block_place f (is_few b) (header_of b), here.next (is_few b) (header_of b), body.leads (flat_map (block_lines f) blocks) later.to later.leads);
    }

-- a log that fits
pub log_leads : (k : Kind) (log : LogValue) → LogFits k log
    → LeadsToEnd (place.First k) (log_lines k log)
log_leads k log fits =
    let f = form_of k log.version in
    let blocks = blocks_lead f log.blocks (place.Between f) (between f) fits.blocks in
    record {
      to = blocks.to;
      may_end = blocks.may_end;
      leads = (fits.version, place.Second f, given (has_version k log.version) (place.Second f) fits.has_version, (tt, place.Between f, refl, blocks.leads));
    }
