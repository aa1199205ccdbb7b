-- What each kind of line leads to, and blocks line by line.
use Rattle.std.proofs.Common.{◌≡◌, ℕ, suc, ◌+◌, ◌-◌, ◌<◌, ◌≤◌, true, List, [], ◌∷◌, ◌++◌, length, map, Some, None, refl, sym, ap, subst, ◌∙◌, append_assoc, arith}
use Rattle.std.specs.Prelude.{◌&&◌, nat_lt, Option}
use Rattle.std.specs.List.{flat_map, AllByRecursion}
use Rattle.std.proofs.lemmas.List.{map-append, length-append, append-nil}
use Rattle.std.proofs.lemmas.List.Concat.{flat_map-append}
use Rattle.std.proofs.lemmas.Bool.{ltb-true, and_parts}
use Rattle.grid_model.specs.Boxes.{GridBox}
use Rattle.sat_model.specs.declared.rows.Row.{Row}
use Rattle.sat_model.specs.declared.rows.SatEntry.{SatEntry}
use Rattle.sat_model.specs.declared.rows.SatEntry.TheVariants as entry
use Rattle.sat_model.specs.declared.steps.Step.{Step}
use Rattle.sat_model.specs.Events.{Event, Renewed, rows_over}
use Rattle.log_lines.specs.declared.line.Corners.{Corners}
use Rattle.log_lines.specs.declared.line.Form.{Form}
use Rattle.log_lines.specs.declared.line.LogForm.{LogForm}
use Rattle.log_lines.specs.declared.line.LogLine.{LogLine}
use Rattle.log_lines.specs.declared.line.LogLine.TheVariants as line
use Rattle.log_lines.specs.declared.line.Place.{Place}
use Rattle.log_lines.specs.declared.line.Place.TheVariants as place
use Rattle.paving_log.specs.declared.lines.Lines.{Lines}
use Rattle.paving_log.specs.declared.lines.Opening.{Opening}
use Rattle.log_lines.specs.Order.{only_if, next, place_behind_root, place_behind_done}
use Rattle.log_lines.specs.Rows.{corners_of}
use Rattle.log_lines.specs.Text.{first_line, row_line, event_lines, IsSkipped, EventFits}
use Rattle.paving_log.specs.Taking.{Takes, TakesWith, TakesTo, block_place}
use Rattle.paving_log.proofs.EventLemmas.{fit_on}
use Rattle.paving_log.proofs.LineLemmas.{takes_on}
use Rattle.log_lines.proofs.OrderLemmas.{only_true, only_place}

-- ---- where a line leads

pub behind_step : (may : LogForm) (n : ℕ) (s : Step) (to : Place)
    → next (place.Steps may n 0) (line.Step s) ≡ Some to → to ≡ place.Steps may n 0
behind_step may n s to e = only_place true (place.Steps may n 0) to e

pub behind_row : (may : LogForm) (n left : ℕ) (row : Row) (to : Place)
    → next (place.Steps may n left) (line.Sat (entry.Row row)) ≡ Some to
    → to ≡ place.Steps may n (left - 1)
behind_row may n left row to e = only_place (nat_lt 0 left) (place.Steps may n (left - 1)) to e

-- a renewal comes where rows may be renewed
pub behind_renew : (may : LogForm) (n : ℕ) (c : Corners) (to : Place)
    → next (place.Steps may n 0) (line.Renew c) ≡ Some to
    → (may.renews ≡ true) × (to ≡ place.Steps may n n)
behind_renew may n c to e =
    ((and_parts may.renews true (only_true (may.renews && true) (place.Steps may n n) to e)).0, only_place (may.renews && true) (place.Steps may n n) to e)

-- one line more, below 64
pub record IsOneMore (k : ℕ) (after to : Place) : Type 0 where
  pub below : k < 64
  pub place : to ≡ after

one_more : (k : ℕ) (after to : Place) → only_if (nat_lt k 64) after ≡ Some to → IsOneMore k after to
one_more k after to e = record { below = ltb-true k 64 (only_true (nat_lt k 64) after to e); place = only_place (nat_lt k 64) after to e }

pub behind_sat : (f : Form) (n k : ℕ) (e : SatEntry) (to : Place)
    → next (place.Satellites f n k) (line.Sat e) ≡ Some to
    → IsOneMore k (place.Satellites f n (k + 1)) to
behind_sat f n k e to is = one_more k (place.Satellites f n (k + 1)) to is

-- one more satellite line of a block of few is a skipped one
pub record IsOneFew (f : Form) (k : ℕ) (e : SatEntry) (to : Place) : Type 0 where
  pub more : IsOneMore k (place.Few f (k + 1)) to
  pub skipped : IsSkipped e

pub behind_few : (f : Form) (k : ℕ) (e : SatEntry) (to : Place)
    → next (place.Few f k) (line.Sat e) ≡ Some to → IsOneFew f k e to
behind_few f k (entry.Row r) to e = cc
behind_few f k (entry.Skipped sat skip) to e = record { more = one_more k (place.Few f (k + 1)) to e; skipped = tt }

-- the same lines, said by another place, and by another first line
pub takes_one : (at at' : Place) (old : Lines) (l l' : LogLine) (to to' : Place) (new : Lines)
    → at ≡ at' → l ≡ l' → to ≡ to' → Takes at old (l ∷ []) to new → Takes at' old (l' ∷ []) to' new
takes_one at at' old l l' to to' new e f g taken =
    subst (λ (p : Place). Takes p old (l' ∷ []) to' new) e
    (subst (λ (m : LogLine). Takes at old (m ∷ []) to' new) f
    (subst (λ (p : Place). Takes at old (l ∷ []) p new) g taken))

-- where a single line that was taken leads
pub leads_to : (at : Place) (old : Lines) (l : LogLine) (to : Place) (new : Lines)
    → Takes at old (l ∷ []) to new → next at l ≡ Some to
leads_to at old l to new taken = taken.leads.2 ∙ ap (λ (p : Place). Some p) taken.leads.3

-- ---- satellite lines

pub sat_taken : (f : Form) (n : ℕ) (start old new : Lines) (sats pushed : List SatEntry) (e : SatEntry) (l : LogLine) (k : ℕ) (to : Place)
    → Takes (place.Satellites f n 0) start (map line.Sat sats) (place.Satellites f n (length sats)) old
    → k ≡ length sats → l ≡ line.Sat e → Takes (place.Satellites f n k) old (l ∷ []) to new
    → pushed ≡ sats ++ e ∷ []
    → Takes (place.Satellites f n 0) start (map line.Sat pushed) (place.Satellites f n (length pushed)) new × (length pushed ≤ 64)
sat_taken f n start old new sats pushed e l k to before count is taken push =
    let one : Takes (place.Satellites f n (length sats)) old (line.Sat e ∷ []) to new = takes_one _ _ old l (line.Sat e) to to new (ap (place.Satellites f n) count) is refl taken in
    let behind = behind_sat f n (length sats) e to (leads_to _ old _ to new one) in
    let both = takes_on _ _ _ start old new (map line.Sat sats) (line.Sat e ∷ []) before one in
    let mapped : map line.Sat sats ++ line.Sat e ∷ [] ≡ map line.Sat pushed = sym (ap (map line.Sat) push ∙ map-append line.Sat sats (e ∷ [])) in
    let counted : length sats + 1 ≡ length pushed = omega (arith, ap length push, length-append sats (e ∷ [])) in (
      subst (λ (ls : List LogLine). Takes (place.Satellites f n 0) start ls (place.Satellites f n (length pushed)) new) mapped
          (subst (λ (p : Place). Takes (place.Satellites f n 0) start (map line.Sat sats ++ line.Sat e ∷ []) p new) (behind.place ∙ ap (place.Satellites f n) counted) both),
      omega (arith, behind.below),
    )

pub root_taken : (f : Form) (n : ℕ) (start old new : Lines) (sats : List SatEntry) (corners : Corners) (l : LogLine) (k : ℕ) (to : Place)
    → Takes (place.Satellites f n 0) start (map line.Sat sats) (place.Satellites f n (length sats)) old
    → k ≡ length sats → l ≡ line.Root corners
    → Takes (place.Satellites f n k) old (l ∷ []) to new
    → Takes (place.Satellites f n 0) start (map line.Sat sats ++ line.Root corners ∷ []) (place_behind_root f n) new
root_taken f n start old new sats corners l k to before count is taken =
    let one : Takes (place.Satellites f n (length sats)) old (line.Root corners ∷ []) to new = takes_one _ _ old l (line.Root corners) to to new (ap (place.Satellites f n) count) is refl taken in
    let behind : Some to ≡ Some (place_behind_root f n) = sym (leads_to _ old _ to new one) in
    let after : to ≡ place_behind_root f n = cc in
    subst (λ (p : Place). Takes (place.Satellites f n 0) start (map line.Sat sats ++ line.Root corners ∷ []) p new) after
    (takes_on _ _ _ start old new (map line.Sat sats) (line.Root corners ∷ []) before one)

pub skip_taken : (f : Form) (start old new : Lines) (sats pushed : List SatEntry) (e : SatEntry) (l : LogLine) (k : ℕ) (to : Place)
    → Takes (place.Few f 0) start (map line.Sat sats) (place.Few f (length sats)) old
    → k ≡ length sats → l ≡ line.Sat e → Takes (place.Few f k) old (l ∷ []) to new
    → pushed ≡ sats ++ e ∷ []
    → Takes (place.Few f 0) start (map line.Sat pushed) (place.Few f (length pushed)) new × (length pushed ≤ 64)
skip_taken f start old new sats pushed e l k to before count is taken push =
    let one : Takes (place.Few f (length sats)) old (line.Sat e ∷ []) to new = takes_one _ _ old l (line.Sat e) to to new (ap (place.Few f) count) is refl taken in
    let behind = (behind_few f (length sats) e to (leads_to _ old _ to new one)).more in
    let both = takes_on _ _ _ start old new (map line.Sat sats) (line.Sat e ∷ []) before one in
    let mapped : map line.Sat sats ++ line.Sat e ∷ [] ≡ map line.Sat pushed = sym (ap (map line.Sat) push ∙ map-append line.Sat sats (e ∷ [])) in
    let counted : length sats + 1 ≡ length pushed = omega (arith, ap length push, length-append sats (e ∷ [])) in (
      subst (λ (ls : List LogLine). Takes (place.Few f 0) start ls (place.Few f (length pushed)) new) mapped
          (subst (λ (p : Place). Takes (place.Few f 0) start (map line.Sat sats ++ line.Sat e ∷ []) p new) (behind.place ∙ ap (place.Few f) counted) both),
      omega (arith, behind.below),
    )

-- the first line of a block, behind the satellite lines of a block of few
pub opening_taken : (f : Form) (start old new : Lines) (sats : List SatEntry) (o : Opening) (l : LogLine) (k : ℕ) (to : Place)
    → Takes (place.Few f 0) start (map line.Sat sats) (place.Few f (length sats)) old
    → k ≡ length sats → l ≡ first_line o.few o.header → to ≡ block_place f o.few o.header
    → Takes (place.Few f k) old (l ∷ []) to new → old.number ≡ o.line
    → TakesWith f (place.Few f 0) start (map line.Sat sats) o new
opening_taken f start old new sats o l k to before count is behind taken number =
    let one : Takes (place.Few f (length sats)) old (first_line o.few o.header ∷ []) (block_place f o.few o.header) new = takes_one _ _ old l _ to _ new (ap (place.Few f) count) is behind taken in
    record {
      taken = takes_on _ _ _ start old new (map line.Sat sats) _ before one;
      number = omega (arith, one.number);
    }

-- ---- steps and renewals

-- steps and renewals that fit were taken from the front
pub record TakesEvents (may : LogForm) (n : ℕ) (start : Lines) (events : List Event) (left : Lines) : Type 0 where
  pub taken : Takes (place.Steps may n 0) start (flat_map event_lines events) (place.Steps may n 0) left
  pub fit : AllByRecursion (EventFits may.renews n) events

-- the lines of one event more
pub event_taken : (may : LogForm) (n : ℕ) (start old new : Lines) (events pushed : List Event) (event : Event)
    → Takes (place.Steps may n 0) start (flat_map event_lines events) (place.Steps may n 0) old
    → Takes (place.Steps may n 0) old (event_lines event) (place.Steps may n 0) new
    → pushed ≡ events ++ event ∷ []
    → Takes (place.Steps may n 0) start (flat_map event_lines pushed) (place.Steps may n 0) new
event_taken may n start old new events pushed event before one push =
    let grown : flat_map event_lines events ++ event_lines event ≡ flat_map event_lines pushed =
    ap (λ (ls : List LogLine). flat_map event_lines events ++ ls) (sym (append-nil (event_lines event)))
    ∙ sym (flat_map-append event_lines events (event ∷ [])) ∙ ap (flat_map event_lines) (sym push) in
    subst (λ (ls : List LogLine). Takes (place.Steps may n 0) start ls (place.Steps may n 0) new) grown
    (takes_on _ _ _ start old new (flat_map event_lines events) (event_lines event) before one)

-- the lines of a step, of the box of a renewal and of the number of splits, each where it leads
pub one_step : (may : LogForm) (n : ℕ) (old new : Lines) (s : Step) (l : LogLine) (to : Place)
    → l ≡ line.Step s → Takes (place.Steps may n 0) old (l ∷ []) to new
    → Takes (place.Steps may n 0) old (line.Step s ∷ []) (place.Steps may n 0) new
one_step may n old new s l to is taken =
    let one : Takes (place.Steps may n 0) old (line.Step s ∷ []) to new = takes_one _ _ old l (line.Step s) to to new refl is refl taken in
    takes_one _ _ old (line.Step s) (line.Step s) to (place.Steps may n 0) new refl refl (behind_step may n s to (leads_to _ old _ to new one)) one

pub one_renew : (may : LogForm) (n : ℕ) (old new : Lines) (c : Corners) (l : LogLine) (to : Place)
    → l ≡ line.Renew c → Takes (place.Steps may n 0) old (l ∷ []) to new
    → Takes (place.Steps may n 0) old (line.Renew c ∷ []) (place.Steps may n n) new
one_renew may n old new c l to is taken =
    let one : Takes (place.Steps may n 0) old (line.Renew c ∷ []) to new = takes_one _ _ old l (line.Renew c) to to new refl is refl taken in
    takes_one _ _ old (line.Renew c) (line.Renew c) to (place.Steps may n n) new refl refl (behind_renew may n c to (leads_to _ old _ to new one)).1 one

pub one_done : (may : LogForm) (n : ℕ) (old new : Lines) (splits : ℕ) (l : LogLine) (to : Place)
    → l ≡ line.Done splits → Takes (place.Steps may n 0) old (l ∷ []) to new
    → Takes (place.Steps may n 0) old (line.Done splits ∷ []) (place_behind_done may) new
one_done may n old new splits l to is taken =
    let one : Takes (place.Steps may n 0) old (line.Done splits ∷ []) to new = takes_one _ _ old l (line.Done splits) to to new refl is refl taken in
    takes_one _ _ old (line.Done splits) (line.Done splits) to (place_behind_done may) new refl refl (only_place true (place_behind_done may) to (leads_to _ old _ to new one)) one

-- one event more
pub event_on : (may : LogForm) (n : ℕ) (start old new : Lines) (events pushed : List Event) (event : Event)
    → TakesEvents may n start events old
    → Takes (place.Steps may n 0) old (event_lines event) (place.Steps may n 0) new
    → EventFits may.renews n event → pushed ≡ events ++ event ∷ []
    → TakesEvents may n start pushed new
event_on may n start old new events pushed event before one fits push = record {
  taken = event_taken may n start old new events pushed event before.taken one push;
  fit = subst (λ (es : List Event). AllByRecursion (EventFits may.renews n) es) (sym push) (fit_on may.renews n events event before.fit fits);
}

-- the number of splits behind them
pub done_on : (may : LogForm) (n : ℕ) (start old new : Lines) (events : List Event) (splits : ℕ)
    → TakesEvents may n start events old
    → Takes (place.Steps may n 0) old (line.Done splits ∷ []) (place_behind_done may) new
    → Takes (place.Steps may n 0) start (flat_map event_lines events ++ line.Done splits ∷ []) (place_behind_done may) new
done_on may n start old new events splits before one = takes_on _ _ _ start old new (flat_map event_lines events) (line.Done splits ∷ []) before.taken one

-- one row more of a renewal
pub row_taken : (may : LogForm) (n left fewer : ℕ) (start old new : Lines) (rows pushed : List Row) (row : Row) (l : LogLine) (to : Place)
    → Takes (place.Steps may n n) start (map row_line rows) (place.Steps may n left) old
    → l ≡ row_line row → Takes (place.Steps may n left) old (l ∷ []) to new
    → pushed ≡ rows ++ row ∷ [] → left ≡ suc fewer
    → Takes (place.Steps may n n) start (map row_line pushed) (place.Steps may n fewer) new
row_taken may n left fewer start old new rows pushed row l to before is taken push less =
    let one : Takes (place.Steps may n left) old (row_line row ∷ []) to new = takes_one _ _ old l (row_line row) to to new refl is refl taken in
    let down : left - 1 ≡ fewer = omega (arith, less) in
    let behind : to ≡ place.Steps may n fewer = behind_row may n left row to (leads_to _ old _ to new one) ∙ ap (place.Steps may n) down in
    let mapped : map row_line rows ++ row_line row ∷ [] ≡ map row_line pushed = sym (ap (map row_line) push ∙ map-append row_line rows (row ∷ [])) in
    subst (λ (ls : List LogLine). Takes (place.Steps may n n) start ls (place.Steps may n fewer) new) mapped
    (subst (λ (p : Place). Takes (place.Steps may n n) start (map row_line rows ++ row_line row ∷ []) p new) behind (takes_on _ _ _ start old new (map row_line rows) (row_line row ∷ []) before one))

-- the box of a renewal and its rows
pub renewal_taken : (may : LogForm) (n : ℕ) (start mid new : Lines) (part : GridBox) (rows : List Row) (c : Corners)
    → corners_of part ≡ c
    → Takes (place.Steps may n 0) start (line.Renew c ∷ []) (place.Steps may n n) mid
    → Takes (place.Steps may n n) mid (map row_line rows) (place.Steps may n 0) new
    → Takes (place.Steps may n 0) start (event_lines (Renewed (rows_over part rows))) (place.Steps may n 0) new
renewal_taken may n start mid new part rows c same first later =
    subst (λ (d : Corners). Takes (place.Steps may n 0) start (line.Renew d ∷ map row_line rows) (place.Steps may n 0) new) (sym same)
    (takes_on _ _ _ start mid new (line.Renew c ∷ []) (map row_line rows) first later)

-- ---- blocks

-- a block behind what was taken, and its body with what follows
pub block_taken : (f : Form) (at : Place) (start mid new : Lines) (ls : List LogLine) (o : Opening) (body : List LogLine) (after : Option Opening)
    → TakesWith f at start ls o mid → TakesTo f (block_place f o.few o.header) mid body after new
    → TakesTo f at start (ls ++ first_line o.few o.header ∷ body) after new
block_taken f at start mid new ls o body None before rest = record {
  to = rest.to;
  taken = subst (λ (all : List LogLine). Takes at start all rest.to new) (append_assoc ls (first_line o.few o.header ∷ []) body)
      (takes_on at (block_place f o.few o.header) rest.to start mid new (ls ++ first_line o.few o.header ∷ []) body before.taken rest.taken);
  may_end = rest.may_end;
  ended = rest.ended;
}
block_taken f at start mid new ls o body (Some o2) before rest = record {
  taken =
      let last = first_line o2.few o2.header ∷ [] in
      let regrouped : (ls ++ first_line o.few o.header ∷ []) ++ (body ++ last) ≡ (ls ++ first_line o.few o.header ∷ body) ++ last = append_assoc ls (first_line o.few o.header ∷ []) (body ++ last) ∙ sym (append_assoc ls (first_line o.few o.header ∷ body) last) in
      subst (λ (all : List LogLine). Takes at start all (block_place f o2.few o2.header) new) regrouped
      (takes_on at (block_place f o.few o.header) (block_place f o2.few o2.header) start mid new (ls ++ first_line o.few o.header ∷ []) (body ++ last) before.taken rest.taken);
  number = rest.number;
}

-- the number of the line behind what was taken
abbrev pub end_of : Option Opening → Lines → ℕ
end_of None left = left.number
end_of (Some o) left = o.line

-- the body of an epoch's block
pub paved_taken : (f : Form) (n : ℕ) (start mid new : Lines) (sats : List SatEntry) (corners said : Corners) (last : List LogLine) (to : Place)
    → said ≡ corners
    → Takes (place.Satellites f n 0) start (map line.Sat sats ++ line.Root corners ∷ []) (place_behind_root f n) mid
    → Takes (place_behind_root f n) mid last to new
    → Takes (place.Satellites f n 0) start (map line.Sat sats ++ line.Root said ∷ last) to new
paved_taken f n start mid new sats corners said last to same first second =
    subst (λ (c : Corners). Takes (place.Satellites f n 0) start (map line.Sat sats ++ line.Root c ∷ last) to new) (sym same)
    (subst (λ (ls : List LogLine). Takes (place.Satellites f n 0) start ls to new) (append_assoc (map line.Sat sats) (line.Root corners ∷ []) last)
    (takes_on _ _ _ start mid new (map line.Sat sats ++ line.Root corners ∷ []) last first second))

-- what follows lines that were taken
pub takes_to_behind : (f : Form) (at mid : Place) (start now new : Lines) (ls more : List LogLine) (next : Option Opening)
    → Takes at start ls mid now → TakesTo f mid now more next new → TakesTo f at start (ls ++ more) next new
takes_to_behind f at mid start now new ls more None before rest = record {
  to = rest.to;
  taken = takes_on at mid rest.to start now new ls more before rest.taken;
  may_end = rest.may_end;
  ended = rest.ended;
}
takes_to_behind f at mid start now new ls more (Some o) before rest = record {
  taken =
      let last = first_line o.few o.header ∷ [] in
      subst (λ (all : List LogLine). Takes at start all (block_place f o.few o.header) new) (sym (append_assoc ls more last))
      (takes_on at mid (block_place f o.few o.header) start now new ls (more ++ last) before rest.taken);
  number = rest.number;
}
