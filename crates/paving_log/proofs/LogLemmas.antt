-- A text spells one value at most, and then each of its lines fits.
use Rattle.std.proofs.Common.{◌≡◌, ℕ, ◌+◌, Bool, true, false, List, [], ◌∷◌, ◌++◌, length, map, Some, None, refl, sym, ap, subst, ◌∙◌, append_assoc, arith, inl, inr}
use Rattle.std.proofs.lemmas.List.{length-append, length-map}
use Rattle.std.specs.Prelude.{Option, is_none, Result, Ok, Err, IfOk, IfErr, ◌⊎◌}
use Rattle.std.specs.List.{flat_map, AllByRecursion}
use Rattle.sat_model.specs.declared.rows.Row.{Row}
use Rattle.sat_model.specs.declared.rows.SatEntry.{SatEntry}
use Rattle.sat_model.specs.declared.rows.SatEntry.TheVariants as entry
use Rattle.sat_model.specs.declared.rules.Rules.{Rules}
use Rattle.grid_model.specs.Boxes.{GridBox}
use Rattle.sat_model.specs.declared.half_spaces.HalfSpace.{HalfSpace}
use Rattle.sat_model.specs.declared.row_sums.RowSum.{RowSum}
use Rattle.sat_model.specs.Bounds.{BoundValue, lines_of_bounds}
use Rattle.sat_model.specs.Events.{Event, Made, Renewed, RowsOver}
use Rattle.sat_model.specs.Logs.{Body, Block, LogValue, is_few, lines_of_body, lines_in, IsNumberedFrom}
use Rattle.log_lines.specs.declared.line.Corners.{Corners}
use Rattle.log_lines.specs.declared.line.Form.{Form}
use Rattle.log_lines.specs.declared.line.Form.TheVariants as form
use Rattle.log_lines.specs.declared.line.Kind.{Kind}
use Rattle.log_lines.specs.declared.line.Kind.TheVariants as kind
use Rattle.log_lines.specs.declared.line.Header.{Header}
use Rattle.log_lines.specs.declared.line.LogForm.{LogForm}
use Rattle.log_lines.specs.declared.line.LogLine.{LogLine}
use Rattle.log_lines.specs.declared.line.LogLine.TheVariants as line
use Rattle.log_lines.specs.declared.line.Place.TheVariants as place
use Rattle.paving_log.specs.declared.log.LogError.{LogError}
use Rattle.log_lines.specs.Rows.{corners_of}
use Rattle.log_lines.specs.Lines.{limits_of}
use Rattle.log_lines.specs.Order.{has_pairs, log_form, form_of}
use Rattle.log_lines.specs.Text.{first_line, header_of, row_line, event_lines, bound_lines, closing_lines, paved_lines, block_lines, head_lines, log_lines, ClosingFits, BodyFits, BlockFits, IsLogText, IsUnrenewed, AreUnrenewed}
use Rattle.paving_log.specs.RowsText.{IsNumberedIn, IsSpelling}
use Rattle.paving_log.specs.Faults.{FaultFrom, FirstFault}
use Rattle.paving_log.specs.declared.log.Log.{Log}
use Rattle.paving_log.specs.declared.log.LogError.TheVariants.{NoMemory}
use Rattle.paving_log.specs.Values.{log_value}
use Rattle.paving_log.specs.Answers.{GivesLog, GivesFault}
use Rattle.paving_log.proofs.EventLemmas.{none_renewed, lines_of_events}
use Rattle.paving_log.proofs.FaultLemmas.{no_fault, one_fault}
use Rattle.paving_log.proofs.LeadLemmas.{log_leads}
use Rattle.log_lines.proofs.ValueLemmas.{rules_from, all_fit, same_lines}

-- the first of the lines is no satellite line
abbrev IsNoSat : LogLine → Type 0
IsNoSat (line.Sat e) = ⊥
IsNoSat _ = Unit {0}

abbrev NoSat : List LogLine → Type 0
NoSat [] = Unit {0}
NoSat (l ∷ lines) = IsNoSat l

sat_first : (e : SatEntry) (lines more : List LogLine) → NoSat lines → lines ≡ line.Sat e ∷ more → ⊥
sat_first e [] more none same = cc
sat_first e (l ∷ lines) more none same = let first : l ≡ line.Sat e = cc in subst IsNoSat first none

same_sats : (sats others : List SatEntry) (tail more : List LogLine) → NoSat tail → NoSat more
    → map line.Sat sats ++ tail ≡ map line.Sat others ++ more → (sats ≡ others) × (tail ≡ more)
same_sats [] [] tail more f g e = (refl, e)
same_sats [] (o ∷ others) tail more f g e = absurd (sat_first o tail _ f e)
same_sats (s ∷ sats) [] tail more f g e = absurd (sat_first s more _ g (sym e))
same_sats (s ∷ sats) (o ∷ others) tail more f g e =
    let rest : map line.Sat sats ++ tail ≡ map line.Sat others ++ more = cc in
    let one : s ≡ o = cc in
    let later = same_sats sats others tail more f g rest in
    (ap (λ (t : List SatEntry). s ∷ t) later.0 ∙ ap (λ (x : SatEntry). x ∷ others) one, later.1)

same_box : (a b : GridBox) → corners_of a ≡ corners_of b → a ≡ b
same_box a b e = λ i. record {
  x = record { lo = (e i).lo.x; hi = (e i).hi.x };
  y = record { lo = (e i).lo.y; hi = (e i).hi.y };
  z = record { lo = (e i).lo.z; hi = (e i).hi.z };
}

same_rows : (rows others : List Row) (tail more : List LogLine) → NoSat tail → NoSat more
    → map row_line rows ++ tail ≡ map row_line others ++ more → (rows ≡ others) × (tail ≡ more)
same_rows [] [] tail more f g e = (refl, e)
same_rows [] (o ∷ others) tail more f g e = absurd (sat_first (entry.Row o) tail _ f e)
same_rows (r ∷ rows) [] tail more f g e = absurd (sat_first (entry.Row r) more _ g (sym e))
same_rows (r ∷ rows) (o ∷ others) tail more f g e =
    let rest : map row_line rows ++ tail ≡ map row_line others ++ more = cc in
    let one : r ≡ o = cc in
    let later = same_rows rows others tail more f g rest in
    (ap (λ (t : List Row). r ∷ t) later.0 ∙ ap (λ (x : Row). x ∷ others) one, later.1)

no_sat_events : (events : List Event) (tail : List LogLine) → NoSat tail
    → NoSat (flat_map event_lines events ++ tail)
no_sat_events [] tail none = none
no_sat_events (Made step ∷ events) tail none = tt
no_sat_events (Renewed new ∷ events) tail none = tt

-- two lists of events with the number of splits behind them
record IsSamePaving (events others : List Event) (m n : ℕ) (tail more : List LogLine) : Type 0 where
  same : events ≡ others
  done : m ≡ n
  behind : tail ≡ more

same_renewal : (new other : RowsOver) → corners_of new.part ≡ corners_of other.part
    → new.rows ≡ other.rows → new ≡ other
same_renewal new other part rows = let box = same_box new.part other.part part in λ i. record { part = box i; rows = rows i }

one_more : (event other : Event) (events others : List Event) (m n : ℕ) (tail more : List LogLine)
    → event ≡ other → IsSamePaving events others m n tail more
    → IsSamePaving (event ∷ events) (other ∷ others) m n tail more
one_more event other events others m n tail more one later = record {
  same = ap (λ (t : List Event). event ∷ t) later.same ∙ ap (λ (x : Event). x ∷ others) one;
  done = later.done;
  behind = later.behind;
}

same_events : (events others : List Event) (m n : ℕ) (tail more : List LogLine)
    → flat_map event_lines events ++ line.Done m ∷ tail ≡ flat_map event_lines others ++ line.Done n ∷ more
    → IsSamePaving events others m n tail more
same_events [] [] m n tail more e = record { same = refl; done = cc; behind = cc }
same_events [] (Made o ∷ others) m n tail more e = cc
same_events [] (Renewed o ∷ others) m n tail more e = cc
same_events (Made s ∷ events) [] m n tail more e = cc
same_events (Renewed s ∷ events) [] m n tail more e = cc
same_events (Made s ∷ events) (Renewed o ∷ others) m n tail more e = cc
same_events (Renewed s ∷ events) (Made o ∷ others) m n tail more e = cc
same_events (Made s ∷ events) (Made o ∷ others) m n tail more e =
    let rest : flat_map event_lines events ++ line.Done m ∷ tail ≡ flat_map event_lines others ++ line.Done n ∷ more = cc in
    let one : s ≡ o = cc in
    one_more (Made s) (Made o) events others m n tail more (ap Made one) (same_events events others m n tail more rest)
same_events (Renewed s ∷ events) (Renewed o ∷ others) m n tail more e =
    let corners : corners_of s.part ≡ corners_of o.part = first_box (corners_of s.part) (corners_of o.part) _ _ e in
    let lines = behind_box (corners_of s.part) (corners_of o.part) _ _ e in
    let last = line.Done m ∷ tail in
    let end = line.Done n ∷ more in
    let regrouped = sym (append_assoc (map row_line s.rows) (flat_map event_lines events) last) ∙ lines ∙ append_assoc (map row_line o.rows) (flat_map event_lines others) end in
    let rows = same_rows s.rows o.rows _ _ (no_sat_events events last tt) (no_sat_events others end tt) regrouped in
    one_more (Renewed s) (Renewed o) events others m n tail more (ap Renewed (same_renewal s o corners rows.0)) (same_events events others m n tail more rows.1)
  where
    first_box : (x y : Corners) (ls ms : List LogLine) → line.Renew x ∷ ls ≡ line.Renew y ∷ ms
        → x ≡ y
    first_box x y ls ms e = cc

    behind_box : (x y : Corners) (ls ms : List LogLine) → line.Renew x ∷ ls ≡ line.Renew y ∷ ms
        → ls ≡ ms
    behind_box x y ls ms e = cc

-- ---- bounds

-- the first of the lines is none of a bound
abbrev IsNoBound : LogLine → Type 0
IsNoBound (line.Bound half sums) = ⊥
IsNoBound _ = Unit {0}

abbrev NoBound : List LogLine → Type 0
NoBound [] = Unit {0}
NoBound (l ∷ lines) = IsNoBound l

bound_first : (half : HalfSpace) (sums : ℕ) (lines more : List LogLine) → NoBound lines
    → lines ≡ line.Bound half sums ∷ more → ⊥
bound_first half sums [] more none same = cc
bound_first half sums (l ∷ lines) more none same = let first : l ≡ line.Bound half sums = cc in subst IsNoBound first none

-- as many sums before the same rest
same_sums : (sums others : List RowSum) (tail more : List LogLine) → length sums ≡ length others
    → map line.By sums ++ tail ≡ map line.By others ++ more → (sums ≡ others) × (tail ≡ more)
same_sums [] [] tail more long e = (refl, e)
same_sums [] (o ∷ others) tail more long e = absurd (omega (arith, long))
same_sums (s ∷ sums) [] tail more long e = absurd (omega (arith, long))
same_sums (s ∷ sums) (o ∷ others) tail more long e =
    let rest : map line.By sums ++ tail ≡ map line.By others ++ more = cc in
    let one : s ≡ o = cc in
    let later = same_sums sums others tail more (omega (arith, long)) rest in
    (ap (λ (t : List RowSum). s ∷ t) later.0 ∙ ap (λ (x : RowSum). x ∷ others) one, later.1)

same_bound : (bound other : BoundValue) → bound.half ≡ other.half → bound.sums ≡ other.sums
    → bound ≡ other
same_bound bound other half sums = λ i. record { half = half i; sums = sums i }

same_bounds : (bounds others : List BoundValue) (tail more : List LogLine) → NoBound tail → NoBound more
    → flat_map bound_lines bounds ++ tail ≡ flat_map bound_lines others ++ more
    → (bounds ≡ others) × (tail ≡ more)
same_bounds [] [] tail more f g e = (refl, e)
same_bounds [] (o ∷ others) tail more f g e = absurd (bound_first o.half (length o.sums) tail _ f e)
same_bounds (b ∷ bounds) [] tail more f g e = absurd (bound_first b.half (length b.sums) more _ g (sym e))
same_bounds (b ∷ bounds) (o ∷ others) tail more f g e =
    let regrouped = sym (append_assoc (map line.By b.sums) (flat_map bound_lines bounds) tail) ∙ behind_first _ _ _ _ _ _ e ∙ append_assoc (map line.By o.sums) (flat_map bound_lines others) more in
    let half : b.half ≡ o.half = first_half _ _ _ _ _ _ e in
    let long : length b.sums ≡ length o.sums = first_count _ _ _ _ _ _ e in
    let sums = same_sums b.sums o.sums _ _ long regrouped in
    let later = same_bounds bounds others tail more f g sums.1 in
    (ap (λ (t : List BoundValue). b ∷ t) later.0 ∙ ap (λ (x : BoundValue). x ∷ others) (same_bound b o half sums.0), later.1)
  where
    first_half : (h k : HalfSpace) (m n : ℕ) (ls ms : List LogLine)
        → line.Bound h m ∷ ls ≡ line.Bound k n ∷ ms → h ≡ k
    first_half h k m n ls ms e = cc

    first_count : (h k : HalfSpace) (m n : ℕ) (ls ms : List LogLine)
        → line.Bound h m ∷ ls ≡ line.Bound k n ∷ ms → m ≡ n
    first_count h k m n ls ms e = cc

    behind_first : (h k : HalfSpace) (m n : ℕ) (ls ms : List LogLine)
        → line.Bound h m ∷ ls ≡ line.Bound k n ∷ ms → ls ≡ ms
    behind_first h k m n ls ms e = cc

-- what stands behind two roots
record IsSameClosing (events others : List Event) (m n : ℕ) (bounds said : List BoundValue) (tail more : List LogLine) : Type 0 where
  same : events ≡ others
  done : m ≡ n
  listed : bounds ≡ said
  behind : tail ≡ more

same_closing : (f : Form) (k j : ℕ) (events others : List Event) (m n : ℕ) (bounds said : List BoundValue) (tail more : List LogLine)
    → NoBound tail → NoBound more
    → ClosingFits f k events m bounds → ClosingFits f j others n said
    → closing_lines f events m bounds ++ tail ≡ closing_lines f others n said ++ more
    → IsSameClosing events others m n bounds said tail more
same_closing (form.Log may) k j events others m n bounds said tail more none clear x y e =
    let paving = same_events events others m n _ _
    (sym (append_assoc (flat_map event_lines events) (line.Done m ∷ flat_map bound_lines bounds) tail) ∙ e
    ∙ append_assoc (flat_map event_lines others) (line.Done n ∷ flat_map bound_lines said) more) in
    let listed = same_bounds bounds said tail more none clear paving.behind in
    record { same = paving.same; done = paving.done; listed = listed.0; behind = listed.1 }
same_closing form.Rows k j events others m n bounds said tail more none clear x y e =
    record { same = x.0 ∙ sym y.0; done = x.1 ∙ sym y.1; listed = x.2 ∙ sym y.2; behind = e }

-- the parts of two blocks behind the satellites
record IsSameBody (body other : Option Body) (tail more : List LogLine) : Type 0 where
  same : body ≡ other
  behind : tail ≡ more

same_body : (f : Form) (b c : Block) (body other : Option Body) (tail more : List LogLine)
    → NoBound tail → NoBound more
    → is_none body ≡ is_none other → BodyFits f b body → BodyFits f c other
    → paved_lines f body ++ tail ≡ paved_lines f other ++ more → IsSameBody body other tail more
same_body f b c None None tail more none clear few x y e = record { same = refl; behind = e }
same_body f b c None (Some other) tail more none clear few x y e = cc
same_body f b c (Some body) None tail more none clear few x y e = cc
same_body f b c (Some body) (Some other) tail more none clear few x y e =
    let corners : corners_of body.root ≡ corners_of other.root = first_root (corners_of body.root) (corners_of other.root) _ _ e in
    let box = same_box body.root other.root corners in
    let paving = same_closing f b.n c.n body.events other.events body.done other.done body.bounds other.bounds tail more none clear x.1 y.1 (behind_root (corners_of body.root) (corners_of other.root) _ _ e) in
    record { same = λ i. Some (record { root = box i; events = paving.same i; done = paving.done i; bounds = paving.listed i }); behind = paving.behind }
  where
    first_root : (x y : Corners) (ls ms : List LogLine) → line.Root x ∷ ls ≡ line.Root y ∷ ms
        → x ≡ y
    first_root x y ls ms e = cc

    behind_root : (x y : Corners) (ls ms : List LogLine) → line.Root x ∷ ls ≡ line.Root y ∷ ms
        → ls ≡ ms
    behind_root x y ls ms e = cc

-- the first lines of two blocks
record IsSameFirst (few other : Bool) (h k : Header) : Type 0 where
  same : few ≡ other
  header : h ≡ k

same_first : (few other : Bool) (h k : Header) → first_line few h ≡ first_line other k
    → IsSameFirst few other h k
same_first true true h k e = record { same = refl; header = cc }
same_first true false h k e = cc
same_first false true h k e = cc
same_first false false h k e = record { same = refl; header = cc }

no_sat_paved : (f : Form) (body : Option Body) (tail : List LogLine) → NoSat tail
    → NoSat (paved_lines f body ++ tail)
no_sat_paved f None tail none = none
no_sat_paved f (Some body) tail none = tt

no_sat_first : (few : Bool) (h : Header) → IsNoSat (first_line few h)
no_sat_first true h = tt
no_sat_first false h = tt

no_sat_blocks : (f : Form) (blocks : List Block) → NoSat (flat_map (block_lines f) blocks)
no_sat_blocks f [] = tt
no_sat_blocks f (b ∷ blocks) = no_sat_first (is_few b) (header_of b)

no_bound_first : (few : Bool) (h : Header) → IsNoBound (first_line few h)
no_bound_first true h = tt
no_bound_first false h = tt

no_bound_blocks : (f : Form) (blocks : List Block) → NoBound (flat_map (block_lines f) blocks)
no_bound_blocks f [] = tt
no_bound_blocks f (b ∷ blocks) = no_bound_first (is_few b) (header_of b)

-- two blocks with the same lines, before the same rest
record IsSameBlock (b c : Block) (tail more : List LogLine) : Type 0 where
  same : b.line ≡ c.line → b ≡ c
  behind : tail ≡ more

same_block : (f : Form) (b c : Block) (tail more : List LogLine) → BlockFits f b → BlockFits f c
    → NoSat tail → NoSat more → NoBound tail → NoBound more → block_lines f b ++ tail ≡ block_lines f c ++ more
    → IsSameBlock b c tail more
same_block f b c tail more g h x y none clear e =
    let first = same_first (is_few b) (is_few c) (header_of b) (header_of c) (head e) in
    let bodies = sym (append_assoc (map line.Sat b.sats) (paved_lines f b.body) tail) ∙ rest e ∙ append_assoc (map line.Sat c.sats) (paved_lines f c.body) more in
    let sats = same_sats b.sats c.sats _ _ (no_sat_paved f b.body tail x) (no_sat_paved f c.body more y) bodies in
    let body = same_body f b c b.body c.body tail more none clear first.same g.body h.body sats.1 in
    record {
      same = λ line. λ i. record {
        line = line i;
        index = (first.header i).index;
        ps = (first.header i).ps;
        n = (first.header i).n;
        sats = sats.0 i;
        body = body.same i;
      };
      behind = body.behind;
    }
  where
    head : {l m : LogLine} {ls ms : List LogLine} → l ∷ ls ≡ m ∷ ms → l ≡ m
    head e = cc

    rest : {l m : LogLine} {ls ms : List LogLine} → l ∷ ls ≡ m ∷ ms → ls ≡ ms
    rest e = cc

same_blocks : (f : Form) (blocks others : List Block) (next : ℕ)
    → AllByRecursion (BlockFits f) blocks → AllByRecursion (BlockFits f) others
    → IsNumberedIn f next blocks → IsNumberedIn f next others
    → flat_map (block_lines f) blocks ≡ flat_map (block_lines f) others → blocks ≡ others
same_blocks f [] [] next g h x y e = refl
same_blocks f [] (c ∷ others) next g h x y e = cc
same_blocks f (b ∷ blocks) [] next g h x y e = cc
same_blocks f (b ∷ blocks) (c ∷ others) next g h x y e =
    let first = same_block f b c (flat_map (block_lines f) blocks) (flat_map (block_lines f) others) g.0 h.0 (no_sat_blocks f blocks) (no_sat_blocks f others) (no_bound_blocks f blocks) (no_bound_blocks f others) e in
    let one = first.same (x.0 ∙ sym y.0) in
    let numbered = subst (λ (d : Block). IsNumberedIn f (next + length (block_lines f d)) blocks) one x.1 in
    let later = same_blocks f blocks others (next + length (block_lines f c)) g.1 h.1 numbered y.1 first.behind in
    cc

-- ---- texts

-- the lines behind those of two heads
record IsSameHead (version other : ℕ) (rules said : Rules) (ls ms : List LogLine) : Type 0 where
  same : version ≡ other
  limits : limits_of rules ≡ limits_of said
  behind : ls ≡ ms

same_head : (version other : ℕ) (rules said : Rules) (ls ms : List LogLine)
    → head_lines version rules ++ ls ≡ head_lines other said ++ ms
    → IsSameHead version other rules said ls ms
same_head version other rules said ls ms e = record { same = cc; limits = cc; behind = cc }

-- a text spells one value at most
pub one_spelled : (k : Kind) (log other : LogValue) (text : List ℕ) → IsSpelling k log text
    → IsSpelling k other text → log ≡ other
one_spelled k log other text x y =
    let first = log_leads k log x.fits in
    let second = log_leads k other y.fits in
    let lines = same_lines (log_lines k log) (log_lines k other) (all_fit (place.First k) first.to (log_lines k log) first.leads) (all_fit (place.First k) second.to (log_lines k other) second.leads) (sym x.spelled ∙ y.spelled) in
    let head = same_head log.version other.version log.rules other.rules _ _ lines in
    let rules = rules_from log.rules other.rules (x.fits.pairs ∙ ap has_pairs head.same ∙ sym y.fits.pairs) head.limits in
    let f = form_of k log.version in
    let g = form_of k other.version in
    let form : g ≡ f = ap (form_of k) (sym head.same) in
    let fit = subst (λ (h : Form). AllByRecursion (BlockFits h) other.blocks) form y.fits.blocks in
    let numbered = subst (λ (h : Form). IsNumberedIn h 3 other.blocks) form y.numbered in
    let same = head.behind ∙ ap (λ (h : Form). flat_map (block_lines h) other.blocks) form in
    let blocks = same_blocks f log.blocks other.blocks 3 x.fits.blocks fit x.numbered numbered same in
    λ i. record { version = head.same i; rules = rules i; blocks = blocks i }

-- in the text of a value each line fits
pub spelled_has_no_fault : (k : Kind) (log : LogValue) (text : List ℕ) (e : LogError)
    → IsSpelling k log text → FaultFrom (place.First k) text 1 e → ⊥
spelled_has_no_fault k log text e is fault =
    let leads = log_leads k log is.fits in
    no_fault (log_lines k log) (place.First k) leads.to text 1 e leads.leads leads.may_end is.spelled fault

-- ---- the numbers of a log's lines

lines_of_listed : (bounds : List BoundValue)
    → length (flat_map bound_lines bounds) ≡ lines_of_bounds bounds
lines_of_listed [] = refl
lines_of_listed (bound ∷ more) =
    omega (arith, lines_of_listed more, length-append (bound_lines bound) (flat_map bound_lines more), length-map bound.sums line.By)

lines_of_body-length : (may : LogForm) (b : Block) (body : Option Body)
    → 1 + length b.sats + lines_of_body body ≡ 1 + length (map line.Sat b.sats ++ paved_lines (form.Log may) body)
lines_of_body-length may b None = omega (arith, length-append (map line.Sat b.sats) [], length-map b.sats line.Sat)
lines_of_body-length may b (Some body) =
    let bounds = flat_map bound_lines body.bounds in
    let last = flat_map event_lines body.events ++ line.Done body.done ∷ bounds in
    omega (
      arith,
      length-append (map line.Sat b.sats) (line.Root (corners_of body.root) ∷ last),
      length-map b.sats line.Sat,
      length-append (flat_map event_lines body.events) (line.Done body.done ∷ bounds),
      lines_of_events body.events,
      lines_of_listed body.bounds,
    )

lines_in-length : (may : LogForm) (b : Block)
    → lines_in b ≡ length (block_lines (form.Log may) b)
lines_in-length may b = omega (arith, lines_of_body-length may b b.body)

numbered_from : (may : LogForm) (next : ℕ) (blocks : List Block)
    → IsNumberedIn (form.Log may) next blocks → IsNumberedFrom next blocks
numbered_from may next [] numbered = numbered
numbered_from may next (b ∷ blocks) numbered =
    (numbered.0, subst (λ (k : ℕ). IsNumberedFrom (next + k) blocks) (sym (lines_in-length may b)) (numbered_from may (next + length (block_lines (form.Log may) b)) blocks numbered.1))

numbered_in : (may : LogForm) (next : ℕ) (blocks : List Block) → IsNumberedFrom next blocks
    → IsNumberedIn (form.Log may) next blocks
numbered_in may next [] numbered = numbered
numbered_in may next (b ∷ blocks) numbered =
    (numbered.0, subst (λ (k : ℕ). IsNumberedIn (form.Log may) (next + k) blocks) (lines_in-length may b) (numbered_in may (next + lines_in b) blocks numbered.1))

pub log_text_from : (log : LogValue) (text : List ℕ) → IsSpelling kind.Log log text
    → IsLogText log text
log_text_from log text is = record { fits = is.fits; numbered = numbered_from (log_form log.version) 3 log.blocks is.numbered; spelled = is.spelled }

pub log_spelling : (log : LogValue) (text : List ℕ) → IsLogText log text
    → IsSpelling kind.Log log text
log_spelling log text is = record { fits = is.fits; numbered = numbered_in (log_form log.version) 3 log.blocks is.numbered; spelled = is.spelled }

-- ---- what a reader's answer is held to

-- what was read is the log of a text
pub value_given : (result : Result Log LogError) (text : List ℕ)
    → IfOk result (λ read. IsSpelling kind.Log (log_value read) text)
    → IfOk result (λ read. IsLogText (log_value read) text)
value_given (Ok read) text value = log_text_from (log_value read) text value
value_given (Err e) text value = tt

-- an answer that is right both ways gives the log of a text
pub gives_log : (result : Result Log LogError) (text : List ℕ)
    → IfOk result (λ read. IsSpelling kind.Log (log_value read) text)
    → IfErr result (λ e. (e ≡ NoMemory) ⊎ FirstFault text e)
    → (log : LogValue) → IsLogText log text → GivesLog log result
gives_log (Ok read) text value fault log is = one_spelled kind.Log (log_value read) log text value (log_spelling log text is)
gives_log (Err e) text value (inl none) log is = none
gives_log (Err e) text value (inr fault) log is = absurd (spelled_has_no_fault kind.Log log text e (log_spelling log text is) fault)

-- and the first fault of a text
pub gives_fault : (result : Result Log LogError) (text : List ℕ)
    → IfOk result (λ read. IsSpelling kind.Log (log_value read) text)
    → IfErr result (λ e. (e ≡ NoMemory) ⊎ FirstFault text e)
    → (e : LogError) → FirstFault text e → GivesFault e result
gives_fault (Ok read) text value fault e first = spelled_has_no_fault kind.Log (log_value read) text e value first
gives_fault (Err f) text value (inl none) e first = inr none
gives_fault (Err f) text value (inr fault) e first = inl (one_fault (place.First kind.Log) text 1 f e fault first)

-- ---- version 1

-- what a log of version 1 may have: nothing more
abbrev plain_form : Form
plain_form = form.Log (record { renews = false; bounds = false })

body_unrenewed : (f : Form) (b : Block) (body : Option Body) → f ≡ plain_form
    → BodyFits f b body → IsUnrenewed body
body_unrenewed f b None plain fits = tt
body_unrenewed f b (Some body) plain fits = none_renewed b.n body.events (subst (λ (g : Form). ClosingFits g b.n body.events body.done body.bounds) plain fits.1).0

blocks_unrenewed : (f : Form) (blocks : List Block) → f ≡ plain_form
    → AllByRecursion (BlockFits f) blocks → AreUnrenewed blocks
blocks_unrenewed f [] plain fit = tt
blocks_unrenewed f (b ∷ blocks) plain fit = (body_unrenewed f b b.body plain fit.0.body, blocks_unrenewed f blocks plain fit.1)

pub first_unrenewed : (result : Result Log LogError) (text : List ℕ)
    → IfOk result (λ read. IsSpelling kind.Log (log_value read) text)
    → IfOk result (λ read. read.version ≡ 1 → AreUnrenewed (log_value read).blocks)
first_unrenewed (Ok read) text value = λ one.
    blocks_unrenewed (form_of kind.Log read.version) (log_value read).blocks (ap (form_of kind.Log) one) value.fits.blocks
first_unrenewed (Err e) text value = tt
