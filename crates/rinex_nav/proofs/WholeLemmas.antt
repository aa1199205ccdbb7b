-- The records of a navigation file that is read are those of its lines with `G`.
use Rattle.std.proofs.Common.{is_some, ◌≡◌, ℕ, zero, suc, ◌+◌, ◌∙◌, Bool, true, false, cond, Option, List, [], ◌∷◌, ◌++◌, take, refl, ap, sym, subst, inl, inr, arith, Result, Ok, Err, IfOk}
use Rattle.std.specs.Prelude.{◌==◌, ◌&&◌, ◌||◌}
use Rattle.std.specs.List.{AllByRecursion}
use Rattle.std.proofs.lemmas.Bool.Decides.{nat_tests}
use Rattle.exact_decimal.specs.NumberFields.{is_blank}
use Rattle.rinex_text.specs.Bodies.{counted, first_of}
use Rattle.rinex_text.specs.Columns.{column_of}
use Rattle.rinex_text.specs.Headers.{Behind, IsShort, IsHeaderEnd, version_by, header_from}
use Rattle.rinex_text.specs.Lines.{TextLine, lines_of}
use Rattle.rinex_text.specs.Whole.{OneForOne}
use Rattle.rinex_text.specs.declared.fault.Fault.{Fault}
use Rattle.rinex_text.specs.declared.fault.ReadError.{ReadError}
use Rattle.rinex_text.specs.declared.fault.Refusal.{Refusal}
use Rattle.gnss_model.specs.declared.systems.Message.{Message}
use Rattle.rinex_nav.specs.Fields.{SourceFields, HealthFields, LastFields, AllFields}
use Rattle.rinex_nav.specs.Sources.{is_inav}
use Rattle.rinex_nav.specs.Files.{with_kept, with_first, records_from, IsNavFileOf}
use Rattle.rinex_nav.specs.Reading.{records_of}
use Rattle.rinex_nav.specs.Records.{Broadcast, is_read, further_text, further_line, record_from}
use Rattle.rinex_nav.specs.Whole.{begins_record, from_first_lines, IsRecordOf, kept_of, IsWholeOf}
use Rattle.rinex_nav.specs.declared.record.NavRecord.{NavRecord}
use Rattle.std.proofs.lemmas.Bool.{false_from_ne_true as not_true}
use Rattle.rinex_text.proofs.OnlyLemmas.{ok_same as same_ok}

-- ---- the lines of a record

abbrev IsNoStart : Option Message → TextLine → Type 0
IsNoStart galileo line = begins_record galileo line ≡ false

abbrev AreNoStarts : Option Message → ℕ → List TextLine → Type 0
AreNoStarts galileo count lines = AllByRecursion (IsNoStart galileo) (take count lines)

-- a line that begins no record, before so many that don't
first_more : {V X : Type 0} (galileo : Option Message) (reader : TextLine → Result V Fault → Type 0) (number : ℕ) (lines : List TextLine) (later : V → Behind → Result X Refusal → Type 0) (x : X) (k : ℕ)
    → ((line : TextLine) (v : V) → reader line (Ok v) → IsNoStart galileo line)
    → first_of reader number lines later (Ok x)
    → ((v : V) (next : Behind) → later v next (Ok x) → AreNoStarts galileo k next.lines)
    → AreNoStarts galileo (suc k) lines
first_more galileo reader number [] later x k start e rest = absurd cc
first_more galileo reader number (line ∷ more) later x k start (inl (v, is, goes)) rest = (start line v is, rest v (record { number = number + 1; lines = more }) goes)
first_more galileo reader number (line ∷ more) later x k start (inr (f, is, e)) rest = absurd cc

no_letter : (byte letter : ℕ) → is_blank byte ≡ true → is_blank letter ≡ false
    → (byte == letter) ≡ false
no_letter byte letter blank other = elim (byte == letter) as (λ b. (b ≡ true → byte ≡ letter) → b ≡ false) [
  | true ↦ λ is. absurd (let e : is_blank letter ≡ true = subst (λ n. is_blank n ≡ true) (is refl) blank in cc)
  | false ↦ λ is. refl
] (λ e. grind (arith, nat_tests))

none_of : (some g e : Bool) → g ≡ false → e ≡ false → (g || (some && e)) ≡ false
none_of galileo true e p q = absurd cc
none_of true false true p q = absurd cc
none_of true false false p q = refl
none_of false false e p q = refl

no_start : (galileo : Option Message) (byte : ℕ) → is_blank byte ≡ true → is_read galileo byte ≡ false
no_start galileo byte blank = none_of (is_some galileo) (byte == 71) (byte == 69) (no_letter byte 71 blank refl) (no_letter byte 69 blank refl)

blank_first : (galileo : Option Message) (line : TextLine) (passed : Unit {0})
    → further_text galileo line (Ok passed) → IsNoStart galileo line
blank_first galileo line passed (inl (short, inl (may, inl (printable, inl (blank, e))))) = no_start galileo (column_of line.text 1) blank
blank_first galileo line passed (inl (short, inl (may, inl (printable, inr (other, e))))) = absurd cc
blank_first galileo line passed (inl (short, inl (may, inr (other, e)))) = absurd cc
blank_first galileo line passed (inl (short, inr (other, e))) = absurd cc
blank_first galileo line passed (inr (other, e)) = absurd cc

further_no_start : {V : Type 0} (galileo : Option Message) (AreFields : List ℕ → V → Type 0) (line : TextLine) (v : V)
    → further_line galileo AreFields line (Ok v) → IsNoStart galileo line
further_no_start galileo AreFields line v (inl (passed, text, fields)) = blank_first galileo line passed text
further_no_start galileo AreFields line v (inr (f, text, e)) = absurd cc

seven_more : (galileo : Option Message) (count number : ℕ) (line : TextLine) (more : List TextLine) (r : Option Broadcast)
    → record_from galileo count (record { number = number; lines = line ∷ more }) (Ok r)
    → AreNoStarts galileo 7 more
seven_more galileo count number line more r (inl (clock, is, goes)) =
    first_more galileo (further_line galileo LastFields) (number + 1) more _ r 6 (further_no_start galileo LastFields) goes (λ a l2 g2.
    first_more galileo (further_line galileo AllFields) l2.number l2.lines _ r 5 (further_no_start galileo AllFields) g2 (λ b l3 g3.
    first_more galileo (further_line galileo AllFields) l3.number l3.lines _ r 4 (further_no_start galileo AllFields) g3 (λ c l4 g4.
    first_more galileo (further_line galileo AllFields) l4.number l4.lines _ r 3 (further_no_start galileo AllFields) g4 (λ d l5 g5.
    first_more galileo (further_line galileo (SourceFields clock.0.system)) l5.number l5.lines _ r 2 (further_no_start galileo (SourceFields clock.0.system)) g5 (λ source l6 g6.
    first_more galileo (further_line galileo (HealthFields (is_inav galileo clock.0.system))) l6.number l6.lines _ r 1 (further_no_start galileo (HealthFields (is_inav galileo clock.0.system))) g6 (λ health l7 g7.
    first_more galileo (further_text galileo) l7.number l7.lines _ r 0 (blank_first galileo) g7 (λ none l8 g8. tt)))))))
seven_more galileo count number line more r (inr (f, is, e)) = absurd cc

-- ---- the records

-- all records of some lines, and those of them that are kept
record IsAllOf (galileo : Option Message) (lines : List TextLine) (records : List Broadcast) : Type 0 where
  all : List (Option Broadcast)
  are : OneForOne (IsRecordOf galileo) (from_first_lines galileo lines) all
  kept : records ≡ kept_of all

passed_over : (galileo : Option Message) (line : TextLine) (more : List TextLine) (records : List Broadcast)
    → begins_record galileo line ≡ false → IsAllOf galileo more records
    → IsAllOf galileo (line ∷ more) records
passed_over galileo line more records other a = record {
  all = a.all;
  are = subst (λ (b : Bool). OneForOne (IsRecordOf galileo) (cond b ((line ∷ more) ∷ from_first_lines galileo more) (from_first_lines galileo more)) a.all) (sym other) a.are;
  kept = a.kept;
}

begun : (galileo : Option Message) (line : TextLine) (more : List TextLine) (r : Option Broadcast) (rest records : List Broadcast)
    → begins_record galileo line ≡ true → IsRecordOf galileo (line ∷ more) r → IsAllOf galileo more rest
    → records ≡ with_kept r rest → IsAllOf galileo (line ∷ more) records
begun galileo line more r rest records begins is a e = record {
  all = r ∷ a.all;
  are = subst (λ (b : Bool). OneForOne (IsRecordOf galileo) (cond b ((line ∷ more) ∷ from_first_lines galileo more) (from_first_lines galileo more)) (r ∷ a.all)) (sym begins) (is, a.are);
  kept = e ∙ ap (with_kept r) a.kept;
}

-- what stands behind a record gave a list, where all gave one
rest_of : (r : Option Broadcast) (more : Result (List Broadcast) Refusal) (records : List Broadcast)
    → Ok records ≡ with_first r more
    → (rest : List Broadcast) × (more ≡ Ok rest) × (records ≡ with_kept r rest)
rest_of r (Ok rest) records e = (rest, refl, same_ok records (with_kept r rest) e)
rest_of r (Err f) records e = absurd cc

none_read : (galileo : Option Message) (records : List Broadcast)
    → ◌≡◌ {A = Result (List Broadcast) Refusal} (Ok records) (Ok []) → IsAllOf galileo [] records
none_read galileo records e = record { all = []; are = tt; kept = same_ok records [] e }

records_walk : (galileo : Option Message) (count number skip : ℕ) (lines : List TextLine) (records : List Broadcast) → AreNoStarts galileo skip lines → records_from galileo count number skip lines (Ok records)
    → IsAllOf galileo lines records
records_walk galileo count number zero [] records none e = none_read galileo records e
records_walk galileo count number (suc skip) [] records none e = none_read galileo records e
records_walk galileo count number (suc skip) (line ∷ more) records none h = passed_over galileo line more records none.0 (records_walk galileo count (number + 1) skip more records none.1 h)
records_walk galileo count number zero (line ∷ more) records none (inl (begins, inl (r, is, given))) =
    let rest = rest_of r given.0 records given.2 in
    let are = records_walk galileo (count + 1) (number + 1) 7 more rest.0 (seven_more galileo count number line more r is) (subst (records_from galileo (count + 1) (number + 1) 7 more) rest.1 given.1) in
    begun galileo line more r rest.0 records begins (record { count = count; number = number; reads = is }) are rest.2
records_walk galileo count number zero (line ∷ more) records none (inl (begins, inr (f, is, e))) = absurd cc
records_walk galileo count number zero (line ∷ more) records none (inr (other, inl (short, h))) =
    passed_over galileo line more records (not_true _ other) (records_walk galileo count (number + 1) zero more records tt h)
records_walk galileo count number zero (line ∷ more) records none (inr (other, inr (long, e))) = absurd cc

-- ---- the header

record IsTop (lines : List TextLine) (behind : List TextLine) : Type 0 where
  header : List TextLine
  end : TextLine
  spelled : lines ≡ header ++ end ∷ behind
  ends : IsHeaderEnd end
  none_before : AllByRecursion (λ line. IsHeaderEnd line → ⊥) header
  short : AllByRecursion IsShort (header ++ end ∷ [])

top_of : (number : ℕ) (lines : List TextLine) (behind : Behind)
    → header_from number lines (Ok behind) → IsTop lines behind.lines
top_of number [] behind e = absurd cc
top_of number (line ∷ more) behind (inl (short, inl (is, e))) =
    let same : more ≡ behind.lines = ap (λ (b : Behind). b.lines) (sym (same_ok behind (record { number = number + 1; lines = more }) e)) in
    record { header = []; end = line; spelled = ap (λ (l : List TextLine). line ∷ l) same; ends = is; none_before = tt; short = (short, tt) }
top_of number (line ∷ more) behind (inl (short, inr (other, later))) =
    let top = top_of (number + 1) more behind later in
    record { header = line ∷ top.header; end = top.end; spelled = ap (λ (l : List TextLine). line ∷ l) top.spelled; ends = top.ends; none_before = (other, top.none_before); short = (short, top.short) }
top_of number (line ∷ more) behind (inr (long, e)) = absurd cc

record IsBehindVersion (lines : List TextLine) (version : Behind) : Type 0 where
  line : TextLine
  spelled : lines ≡ line ∷ version.lines
  short : IsShort line

behind_version : (galileo : Option Message) (lines : List TextLine) (version : Behind)
    → version_by (is_some galileo) 78 lines (Ok version) → IsBehindVersion lines version
behind_version galileo [] version e = absurd cc
behind_version galileo (line ∷ more) version (inl (passed, inl (short, label), e)) =
    record { line = line; spelled = ap (λ (l : List TextLine). line ∷ l) (ap (λ (b : Behind). b.lines) (sym (same_ok version (record { number = 2; lines = more }) e))); short = short }
behind_version galileo (line ∷ more) version (inl (passed, inr (long, other), e)) = absurd cc
behind_version galileo (line ∷ more) version (inr (f, is, e)) = absurd cc

-- ---- files

whole : (galileo : Option Message) (text : List ℕ) (records : List Broadcast) → IsNavFileOf galileo text records
    → IsWholeOf galileo (lines_of text) records
whole galileo text records (inl (version, v, inl (body, b, h))) =
    let first = behind_version galileo (lines_of text) version v in
    let top = top_of version.number version.lines body b in
    let walked = records_walk galileo 0 body.number 0 (counted body.lines) records tt h in
    record {
      header = top.header;
      behind = body.lines;
      parted = record { version = first.line; end = top.end; spelled = first.spelled ∙ ap (λ (l : List TextLine). first.line ∷ l) top.spelled; ends = top.ends; none_before = top.none_before; short = (first.short, top.short) };
      all = walked.all;
      all_are = walked.are;
      records_are = walked.kept;
    }
whole galileo text records (inl (version, v, inr (f, b, e))) = absurd cc
whole galileo text records (inr (f, v, e)) = absurd cc

pub whole_read : (galileo : Option Message) (text : List ℕ) (read : Result (List NavRecord) ReadError)
    → IfOk read (λ nav. IsNavFileOf galileo text (records_of nav))
    → IfOk read (λ nav. IsWholeOf galileo (lines_of text) (records_of nav))
whole_read galileo text (Ok nav) file = whole galileo text (records_of nav) file
whole_read galileo text (Err e) file = tt
