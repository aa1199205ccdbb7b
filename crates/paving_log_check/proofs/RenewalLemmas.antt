-- The lines of a renewal, tested one after another by rows that are formed of bases.
use Rattle.std.proofs.Common.{◌≡◌, ℕ, zero, suc, ◌+◌, ◌<◌, ◌≤◌, arith, Bool, List, [], ◌∷◌, length, get_or, min, map, refl, sym, ap, subst, ◌∙◌, inl, inr, Option, None, Some}
use Rattle.std.specs.Prelude.{slice_get, option_map, IsTrue, ◌↔◌, MatchOption}
use Rattle.std.proofs.lemmas.List.{length-map}
use Rattle.std.proofs.lemmas.Option.{same_Some, slice_get_within, slice_get_read, slice_get-map}
use Rattle.gnss_model.specs.declared.delays.Delays.{Delays}
use Rattle.std.specs.List.{AllByRecursion}
use Rattle.grid_model.specs.Boxes.{GridBox, grid_box, IsInside}
use Rattle.grid_model.specs.SearchBoxes.{IsSearchBox}
use Rattle.grid_model.specs.declared.boxes.Box3.{Box3}
use Rattle.sat_model.specs.Contractors.{LiesIn}
use Rattle.sat_rows.specs.Bases.{IsNarrowBase, CanForm}
use Rattle.sat_rows.proofs.PartLemmas.{part_search, part_high}
use Rattle.usable_sats.specs.Usability.{IsHigh}
use Rattle.paving_log_check.specs.Bases.{AreReady}
use Rattle.sat_model.specs.Events.{RowsOver, rows_over}
use Rattle.sat_model.specs.Fold.{Subpaving}
use Rattle.sat_model.specs.Renewals.{HoldsLive, IsOfPlace, LineFact, LinesPass, LinesFail}
use Rattle.sat_model.specs.declared.rows.Row.{Row}
use Rattle.sat_rows.specs.declared.bases.Base.{Base}
use Rattle.paving_log_check.specs.Answers.{ShowsNoSpans}
use Rattle.paving_log_check.specs.Forming.{IsFormedBy, HoldsFormed, LineHolds, LineBreaks, AreFormed, RenewalHolds, RenewalBreaks}
use Rattle.sat_model.specs.declared.rows.SatEntry.TheVariants as entry
use Rattle.sat_rows.specs.declared.lines.SatLine.TheVariants.{Usable}
use Rattle.paving_log_check.specs.Lines.{HoldsOwn, HasBound, RowFails}
use Rattle.paving_log_check.specs.Renewed.{HoldsGiven, own_tests}
use Rattle.paving_log_check.specs.declared.verdict.Fault.{Fault}

-- there are no more lines than first rows
lines_few : (Meets : LineFact) (first : RowsOver) (j i : ℕ) (rows : List Row)
    → LinesPass Meets first j i rows → i ≤ length first.rows → i + length rows ≤ length first.rows
lines_few Meets first j i [] h le = omega arith
lines_few Meets first j i (row ∷ rows) h le =
    let here = slice_get_within (map (λ (own : Row). own.sat) first.rows) i row.sat h.0.0 in
    omega (arith, lines_few Meets first j (suc i) rows h.1 (omega (arith, here, length-map first.rows (λ (own : Row). own.sat))))

-- ---- the satellite in a place

pub place_is : (firsts : List Row) (i : ℕ) (first row : Row) (t : Bool) → i < length firsts
    → first ≡ get_or firsts i first → IsTrue t ↔ (first.sat ≡ row.sat)
    → IsTrue t ↔ IsOfPlace firsts i row
place_is firsts i first row t within is e =
    let at = slice_get-map (λ (own : Row). own.sat) firsts i ∙ ap (option_map (λ (own : Row). own.sat)) (slice_get_read firsts (length firsts) i first refl within is) in
    (λ h. at ∙ ap Some (e.0 h), λ p. e.1 (same_Some first.sat row.sat (sym at ∙ p)))

pub place_beyond : (firsts : List Row) (i : ℕ) (row : Row) → length firsts ≤ i
    → IsOfPlace firsts i row → ⊥
place_beyond firsts i row beyond h =
    absurd (omega (arith, beyond, slice_get_within (map (λ (own : Row). own.sat) firsts) i row.sat h, length-map firsts (λ (own : Row). own.sat)))

-- the own row of a line's base decides
pub line_found : (delays : Delays) (part : GridBox) (firsts : List Row) (bases : List Base) (i : ℕ) (row ours : Row) (found : Option Fault) (line : ℕ)
    → IsOfPlace firsts i row → IsFormedBy delays part (slice_get bases i) (Some ours)
    → MatchOption found (HoldsOwn delays row ours × HasBound delays row ours) (λ fault. RowFails delays (entry.Row row) (Usable ours) fault × (fault.line ≡ line))
    → MatchOption found (LineHolds delays part firsts bases i row) (λ fault. LineBreaks delays part firsts bases i row fault × (fault.line ≡ line))
line_found delays part firsts bases i row ours None line place formed h = (place, (Some ours, formed, h))
line_found delays part firsts bases i row ours (Some fault) line place formed f = (inr (place, (ours, formed, f.0)), f.1)

module _ (delays : Delays) (root part : GridBox) (firsts : List Row) (bases : List Base) where
  pub renewal_few : (boxes : Subpaving) (new : RowsOver)
      → RenewalHolds delays root firsts bases boxes new → length new.rows ≤ length firsts
  renewal_few boxes new h =
      let lines = (h.passes (h.given ∷ []) 0 refl).lines in
      omega (arith, lines_few (HoldsGiven delays (h.given ∷ [])) (rows_over root firsts) 0 0 new.rows lines (omega arith))

  -- line i of these passes, or fails
  abbrev pub HoldsAt : List Row → ℕ → Type 0
  HoldsAt rows i = (row : Row) × (slice_get rows i ≡ Some row) × LineHolds delays part firsts bases i row

  abbrev pub BreaksAt : List Row → ℕ → Fault → Type 0
  BreaksAt rows i fault = (row : Row) × (slice_get rows i ≡ Some row) × LineBreaks delays part firsts bases i row fault

  -- the lines from number i on, by the bases from there on
  abbrev HoldsFrom : ℕ → List Row → ℕ → Type 0
  HoldsFrom i rows k = (row : Row) × (slice_get rows k ≡ Some row) × LineHolds delays part firsts bases (i + k) row

  abbrev AreBasesFrom : ℕ → List Base → Type 0
  AreBasesFrom i left = (k : ℕ) → slice_get bases (i + k) ≡ slice_get left k

  bases_next : (i : ℕ) (base : Base) (left : List Base) → AreBasesFrom i (base ∷ left)
      → AreBasesFrom (suc i) left
  bases_next i base left from k = subst (λ (n : ℕ). slice_get bases n ≡ slice_get left k) (omega arith) (from (suc k))

  bases_none : (i : ℕ) → AreBasesFrom i [] → AreBasesFrom (suc i) []
  bases_none i from k = subst (λ (n : ℕ). slice_get bases n ≡ None) (omega arith) (from (suc k))

  holds_next : (i : ℕ) (row : Row) (rows : List Row) (n : ℕ)
      → ((k : ℕ) → k < suc n → HoldsFrom i (row ∷ rows) k) → (k : ℕ) → k < n
      → HoldsFrom (suc i) rows k
  holds_next i row rows n each k less =
      let (other, is, h) = each (suc k) (omega (arith, less)) in
      (other, is, subst (λ (l : ℕ). LineHolds delays part firsts bases l other) (omega arith) h)

  -- the rows from number i on of a whole list
  abbrev IsGivenFrom : List Row → ℕ → List Row → Type 0
  IsGivenFrom all i given = (k : ℕ) → slice_get all (i + k) ≡ slice_get given k

  given_next : (all : List Row) (i : ℕ) (ours : Row) (given : List Row)
      → IsGivenFrom all i (ours ∷ given) → IsGivenFrom all (suc i) given
  given_next all i ours given from k = subst (λ (n : ℕ). slice_get all n ≡ slice_get given k) (omega arith) (from (suc k))

  none_next : (all : List Row) (i : ℕ) → IsGivenFrom all i [] → IsGivenFrom all (suc i) []
  none_next all i from k = subst (λ (n : ℕ). slice_get all n ≡ None) (omega arith) (from (suc k))

  none_formed : (given : List Row) → AreFormed delays root part [] given → given ≡ []
  none_formed [] f = refl
  none_formed (ours ∷ given) f = absurd f

  -- ---- one line

  record IsFormedRow (i : ℕ) (base : Base) (row : Row) (ours : Option Row) : Type 0 where
    pub one : Row
    pub is_one : ours ≡ Some one
    pub formed : IsFormedBy delays part (Some base) (Some one)

  formed_some : (i : ℕ) (base : Base) (row : Row) (ours : Option Row)
      → slice_get bases i ≡ Some base → IsFormedBy delays part (slice_get bases i) ours
      → IsFormedRow i base row ours
  formed_some i base row None some f = absurd (rw some at f)
  formed_some i base row (Some one) some f = record { one = one; is_one = refl; formed = rw some at f }

  base_at : (i : ℕ) (left : List Base) → AreBasesFrom i left → slice_get bases i ≡ slice_get left 0
  base_at i left from = subst (λ (n : ℕ). slice_get bases n ≡ slice_get left 0) (omega arith) (from 0)

  given_at : (all : List Row) (i : ℕ) (given : List Row) → IsGivenFrom all i given
      → slice_get all i ≡ slice_get given 0
  given_at all i given from = subst (λ (n : ℕ). slice_get all n ≡ slice_get given 0) (omega arith) (from 0)

  module _ (renewed : List (List Row)) (j : ℕ) (all : List Row) (at : slice_get renewed j ≡ Some all) where
    -- a row is given for the line, which it holds
    passes_some : (i : ℕ) (ours : Row) (given : List Row) (row : Row)
        → IsGivenFrom all i (ours ∷ given) → HoldsFormed delays row (Some ours)
        → HoldsGiven delays renewed j i row
    passes_some i ours given row from h other (rows, there, is) =
        let same : rows ≡ all = same_Some rows all (sym there ∙ at) in
        let one : ours ≡ other = same_Some ours other (sym (given_at all i (ours ∷ given) from) ∙ subst (λ l. slice_get l i ≡ Some other) same is) in
        rw (sym one) h

    -- none is
    passes_none : (i : ℕ) (row : Row) → IsGivenFrom all i [] → HoldsGiven delays renewed j i row
    passes_none i row from other (rows, there, is) =
        let same : rows ≡ all = same_Some rows all (sym there ∙ at) in
        absurd (let none = sym (given_at all i [] from) ∙ subst (λ l. slice_get l i ≡ Some other) same is in cc)

  -- ---- all lines pass

  module _ (inside : IsInside part root) where
    record IsBuilt (i : ℕ) (left : List Base) (rows : List Row) : Type 0 where
      pub given : List Row
      pub formed : AreFormed delays root part left given
      pub many : length given ≡ min (length left) (length rows)
      pub passes : (renewed : List (List Row)) (j : ℕ) (all : List Row)
          → slice_get renewed j ≡ Some all → IsGivenFrom all i given
          → LinesPass (HoldsGiven delays renewed) (rows_over root firsts) j i rows

    first_line : (i : ℕ) (row : Row) (rows : List Row) → HoldsFrom i (row ∷ rows) 0
        → LineHolds delays part firsts bases i row
    first_line i row rows (other, is, h) =
        let same : row ≡ other = same_Some row other is in
        rw same (subst (λ (n : ℕ). LineHolds delays part firsts bases n other) (omega arith) h)

    built : (i : ℕ) (left : List Base) (rows : List Row) → AreBasesFrom i left
        → ((k : ℕ) → k < length rows → HoldsFrom i rows k) → IsBuilt i left rows
    built i left [] from each = record { given = []; formed = tt; many = omega arith; passes = λ renewed j all at given. tt }
    built i [] (row ∷ rows) from each =
        let (place, more) = first_line i row rows (each 0 (omega arith)) in
        let later = built (suc i) [] rows (bases_none i from) (holds_next i row rows (length rows) (λ k less. each k (omega (arith, less)))) in
        let none = none_formed later.given later.formed in
        record {
          given = [];
          formed = tt;
          many = omega arith;
          passes = λ renewed j all at given. (
            (place, passes_none renewed j all at i row given),
            later.passes renewed j all at (subst (IsGivenFrom all (suc i)) (sym none) (none_next all i given)),
          );
        }
    built i (base ∷ left) (row ∷ rows) from each =
        let (place, (ours, formed, holds)) = first_line i row rows (each 0 (omega arith)) in
        let one = formed_some i base row ours (base_at i (base ∷ left) from) formed in
        let later = built (suc i) left rows (bases_next i base left from) (holds_next i row rows (length rows) (λ k less. each k (omega (arith, less)))) in
        record {
          given = one.one ∷ later.given;
          formed = ((inside, one.formed), later.formed);
          many = omega (arith, later.many);
          passes = λ renewed j all at given. (
            (place, passes_some renewed j all at i one.one later.given row given (subst (HoldsFormed delays row) one.is_one holds)),
            later.passes renewed j all at (given_next all i one.one later.given given),
          );
        }

    -- ---- a line fails

    record IsBroken (i : ℕ) (left : List Base) (rows : List Row) (k : ℕ) (fault : Fault) : Type 0 where
      pub given : List Row
      pub formed : AreFormed delays root part left given
      pub many : min (length left) k ≤ length given
      pub fails : (renewed : List (List Row)) (j : ℕ) (all : List Row)
          → slice_get renewed j ≡ Some all → IsGivenFrom all i given
          → LinesFail (own_tests delays renewed) (rows_over root firsts) j i rows k fault

    abbrev BreaksFrom : ℕ → List Row → ℕ → Fault → Type 0
    BreaksFrom i rows k fault = (row : Row) × (slice_get rows k ≡ Some row) × LineBreaks delays part firsts bases (i + k) row fault

    broken_here : (i : ℕ) (left : List Base) (row : Row) (rows : List Row) (fault : Fault)
        → AreBasesFrom i left → LineBreaks delays part firsts bases i row fault
        → IsBroken i left (row ∷ rows) 0 fault
    broken_here i left row rows fault from (inl f) = record { given = []; formed = tt; many = omega arith; fails = λ renewed j all at given. inl f }
    broken_here i [] row rows fault from (inr (place, (ours, formed, fails))) = absurd (let none = base_at i [] from in rw none at formed)
    broken_here i (base ∷ left) row rows fault from (inr (place, (ours, formed, fails))) =
        let some = base_at i (base ∷ left) from in
        record {
          given = ours ∷ [];
          formed = ((inside, rw some at formed), tt);
          many = omega arith;
          fails = λ renewed j all at given. inr (place, (ours, (all, at, given_at all i (ours ∷ []) given), fails));
        }

    broken : (i : ℕ) (left : List Base) (rows : List Row) (k : ℕ) (fault : Fault)
        → AreBasesFrom i left → ((n : ℕ) → n < k → HoldsFrom i rows n) → BreaksFrom i rows k fault
        → IsBroken i left rows k fault
    broken i left [] k fault from each (row, is, f) = absurd cc
    broken i left (row ∷ rows) zero fault from each (other, is, f) =
        let same : row ≡ other = same_Some row other is in
        broken_here i left row rows fault from (rw same (subst (λ (n : ℕ). LineBreaks delays part firsts bases n other fault) (omega arith) f))
    broken i [] (row ∷ rows) (suc k) fault from each (other, is, f) =
        let (place, more) = first_line i row rows (each 0 (omega arith)) in
        let later = broken (suc i) [] rows k fault (bases_none i from) (holds_next i row rows k each)
        (other, is, subst (λ (n : ℕ). LineBreaks delays part firsts bases n other fault) (omega arith) f) in
        let none = none_formed later.given later.formed in
        record {
          given = [];
          formed = tt;
          many = omega arith;
          fails = λ renewed j all at given. (
            (place, passes_none renewed j all at i row given),
            later.fails renewed j all at (subst (IsGivenFrom all (suc i)) (sym none) (none_next all i given)),
          );
        }
    broken i (base ∷ left) (row ∷ rows) (suc k) fault from each (other, is, f) =
        let (place, (ours, formed, holds)) = first_line i row rows (each 0 (omega arith)) in
        let one = formed_some i base row ours (base_at i (base ∷ left) from) formed in
        let later = broken (suc i) left rows k fault (bases_next i base left from) (holds_next i row rows k each)
        (other, is, subst (λ (n : ℕ). LineBreaks delays part firsts bases n other fault) (omega arith) f) in
        record {
          given = one.one ∷ later.given;
          formed = ((inside, one.formed), later.formed);
          many = omega (arith, later.many);
          fails = λ renewed j all at given. (
            (place, passes_some renewed j all at i one.one later.given row given (subst (HoldsFormed delays row) one.is_one holds)),
            later.fails renewed j all at (given_next all i one.one later.given given),
          );
        }

  -- ---- the renewal

  whole_bases : AreBasesFrom 0 bases
  whole_bases k = ap (slice_get bases) (omega arith)

  whole_given : (given : List Row) → IsGivenFrom given 0 given
  whole_given given k = ap (slice_get given) (omega arith)

  pub renewal_holds : (boxes : Subpaving) (rows : List Row) → HoldsLive root boxes part
      → ((i : ℕ) → i < length rows → HoldsAt rows i)
      → RenewalHolds delays root firsts bases boxes (rows_over part rows)
  renewal_holds boxes rows holds each =
      let b = built holds.in_root 0 bases rows whole_bases (λ k less. let (row, is, h) = each k less in (row, is, subst (λ (n : ℕ). LineHolds delays part firsts bases n row) (omega arith) h)) in
      record {
        given = b.given;
        formed = b.formed;
        many = b.many;
        passes = λ renewed j at. record { holds = holds; lines = b.passes renewed j b.given at (whole_given b.given) };
      }

  pub renewal_breaks : (boxes : Subpaving) (rows : List Row) (i : ℕ) (fault : Fault)
      → HoldsLive root boxes part → ((k : ℕ) → k < i → HoldsAt rows k) → BreaksAt rows i fault
      → RenewalBreaks delays root firsts bases boxes (rows_over part rows) (suc i) fault
  renewal_breaks boxes rows i fault holds each (row, is, f) =
      let b = broken holds.in_root 0 bases rows i fault whole_bases (λ k less. let (other, there, h) = each k less in (other, there, subst (λ (n : ℕ). LineHolds delays part firsts bases n other) (omega arith) h))
      (row, is, subst (λ (n : ℕ). LineBreaks delays part firsts bases n row fault) (omega arith) f) in
      record {
        given = b.given;
        formed = b.formed;
        many = omega (arith, b.many);
        fails = λ renewed j at. (holds, b.fails renewed j b.given at (whole_given b.given));
      }

  pub renewal_box_breaks : (boxes : Subpaving) (rows : List Row) (fault : Fault)
      → (HoldsLive root boxes part → ⊥) → fault.number ≡ 65 → ShowsNoSpans fault
      → RenewalBreaks delays root firsts bases boxes (rows_over part rows) 0 fault
  renewal_box_breaks boxes rows fault not number plain = record { given = []; formed = tt; many = omega arith; fails = λ renewed j at. (not, number, plain) }

-- ---- where a row can be formed

ready_each : (delays : Delays) (root : GridBox) (bases : List Base) (i : ℕ) (base : Base)
    → AllByRecursion (CanForm delays root) bases → slice_get bases i ≡ Some base
    → CanForm delays root base
ready_each delays root [] i base each is = absurd cc
ready_each delays root (first ∷ bases) zero base each is = let same : first ≡ base = same_Some first base is in rw (sym same) each.0
ready_each delays root (first ∷ bases) (suc i) base each is = ready_each delays root bases i base each.1 is

-- a box that isn't empty lies in the root that it is inside of
pub lies_in_root : (part : Box3) (root : GridBox) → IsInside (grid_box part) root
    → LiesIn (grid_box part) root
lies_in_root part root inside zero = record { low = inside.0.0; ordered = part.x_ordered; high = inside.0.1 }
lies_in_root part root inside (suc zero) = record { low = inside.1.0; ordered = part.y_ordered; high = inside.1.1 }
lies_in_root part root inside (suc (suc n)) = record { low = inside.2.0; ordered = part.z_ordered; high = inside.2.1 }

-- a base of those that are ready can be seen from a part of the root
pub record CanSee (delays : Delays) (part : GridBox) (base : Base) : Type 0 where
  pub narrow : IsNarrowBase base
  pub search : IsSearchBox part
  pub high : IsHigh delays part

pub can_see : (delays : Delays) (root : GridBox) (bases : List Base) (part : Box3) (i : ℕ) (base : Base)
    → AreReady delays root bases → IsInside (grid_box part) root
    → slice_get bases i ≡ Some base → CanSee delays (grid_box part) base
can_see delays root bases part i base ready inside is =
    let can = ready_each delays root bases i base ready.each is in
    let lies = lies_in_root part root inside in
    record { narrow = can.narrow; search = part_search (grid_box part) root lies can.search; high = part_high delays (grid_box part) root lies can.high }
