-- The lines of a file give one answer only.
use Rattle.std.proofs.Common.{true, false, subst, is_some, ◌≡◌, ℕ, Bool, Option, zero, suc, ◌+◌, List, [], ◌∷◌, refl, sym, ap, inl, inr, ◌∙◌, IfOk, IfErr, Result, Ok, Err}
use Rattle.exact_decimal.proofs.Answers.{floating_answer, floating_blank}
use Rattle.rinex_text.specs.Bodies.{counted}
use Rattle.rinex_text.specs.Headers.{Behind}
use Rattle.rinex_text.specs.Lines.{TextLine, lines_of}
use Rattle.rinex_text.specs.Reading.{Refuses, GivesRefusal}
use Rattle.rinex_text.proofs.OnlyLemmas.{IsOnly, test_only, where_only, read_only, ok_same, err_same, not_both, then_only, gives_only, number_only, first_only, header_only, version_by_only}
use Rattle.rinex_text.specs.declared.fault.ReadError.{ReadError}
use Rattle.rinex_text.specs.declared.fault.ReadError.TheVariants.{Refused, NoMemory}
use Rattle.rinex_text.specs.declared.fault.Refusal.{Refusal}
use Rattle.gnss_model.specs.declared.systems.Message.{Message}
use Rattle.rinex_nav.specs.Reading.{records_of, GivesRecords}
use Rattle.rinex_nav.specs.declared.record.NavRecord.{NavRecord}
use Rattle.rinex_nav.specs.Fields.{IsField, IsSource, SourceFields, HealthFields, LastFields, AllFields, IsClockTime}
use Rattle.rinex_nav.specs.Sources.{IsHealthy}
use Rattle.exact_decimal.specs.declared.decimal.Decimal.{Decimal}
use Rattle.rinex_nav.specs.Files.{with_first, records_from, nav_file_of, IsNavFileOf, IsFirstFaultOf}
use Rattle.rinex_nav.specs.Records.{Broadcast, clock_line, further_text, further_line, record_from}
use Rattle.rinex_nav.proofs.FieldLemmas.{no_time}

-- ---- fields

field_only : (field : List ℕ) → IsOnly (IsField field)
field_only field d e a b = elim a [
  | inl (blank, none) ↦ elim b [
    | inl (also, other) ↦ none ∙ sym other
    | inr floating ↦ absurd (let none = (floating_blank field).1 blank in let some = (floating_answer field e.digits e.ten).1 floating in cc)
  ]
  | inr floating ↦ elim b [
    | inl (blank, other) ↦ absurd (let none = (floating_blank field).1 blank in let some = (floating_answer field d.digits d.ten).1 floating in cc)
    | inr also ↦ let first = (floating_answer field d.digits d.ten).1 floating in let second = (floating_answer field e.digits e.ten).1 also in cc
  ]
]

source_only : (system : ℕ) (text : List ℕ) → IsOnly (IsSource system text)
source_only system text d e a b = elim a [
  | inl (is, field) ↦ elim b [
    | inl (also, other) ↦ field_only _ d e field other
    | inr (not, none) ↦ absurd (not is)
  ]
  | inr (not, none) ↦ elim b [
    | inl (is, field) ↦ absurd (not is)
    | inr (also, other) ↦ none ∙ sym other
  ]
]

sources_only : (system : ℕ) (text : List ℕ) → IsOnly (SourceFields system text)
sources_only system text (a, b) (k, l) f g = let e1 = field_only _ a k f.0 g.0 in let e2 = source_only system text b l f.1 g.1 in cc

healthy_only : (inav : Bool) (health : Decimal) → IsOnly (IsHealthy inav health)
healthy_only false health a b f g = f ∙ sym g
healthy_only true health true true f g = refl
healthy_only true health false false f g = refl
healthy_only true health true false f g = absurd (let e : false ≡ true = g.1 (f.0 refl) in cc)
healthy_only true health false true f g = absurd (let e : false ≡ true = f.1 (g.0 refl) in cc)

health_only : (inav : Bool) (text : List ℕ) → IsOnly (HealthFields inav text)
health_only inav text (a, b) (k, l) (h, at, is, delay) (m, also, other, more) =
    let same = field_only _ h m at also in
    let e1 = healthy_only inav m a k (subst (λ (d : Decimal). IsHealthy inav d a) same is) other in
    let e2 = field_only _ b l delay more in
    cc

last_only : (text : List ℕ) → IsOnly (LastFields text)
last_only text (a, b, c) (k, l, m) f g =
    let e1 = field_only _ a k f.0 g.0 in
    let e2 = field_only _ b l f.1 g.1 in
    let e3 = field_only _ c m f.2 g.2 in
    cc

all_only : (text : List ℕ) → IsOnly (AllFields text)
all_only text (a, b, c, d) (k, l, m, n) f g =
    let e1 = field_only _ a k f.0 g.0 in
    let e2 = field_only _ b l f.1 g.1 in
    let e3 = field_only _ c m f.2 g.2 in
    let e4 = field_only _ d n f.3 g.3 in
    cc

time_only : (text : List ℕ) → IsOnly (IsClockTime text)
time_only text s t a b =
    a.value ∙ sym (no_time text a.year a.month a.day a.hour a.minute a.second a.year_is a.month_is a.day_is a.hour_is a.minute_is a.second_is t b).1

-- ---- lines

clock_only : (count : ℕ) (line : TextLine) → IsOnly (clock_line count line)
clock_only count line =
    test_only _ _ _ (test_only _ _ _ (read_only _ _ _ (number_only line.text) (λ number. test_only _ _ _ (read_only _ _ _ (time_only line.text) (λ toc. read_only _ _ _ (last_only line.text) (λ clock. gives_only _))))))

text_only : (galileo : Option Message) (line : TextLine) → IsOnly (further_text galileo line)
text_only galileo line = test_only _ _ _ (test_only _ _ _ (test_only _ _ _ (test_only _ _ _ (gives_only tt))))

further_only : {V : Type 0} (galileo : Option Message) (Are : List ℕ → V → Type 0)
    → ((text : List ℕ) → IsOnly (Are text)) → (line : TextLine)
    → IsOnly (further_line galileo Are line)
further_only galileo Are one line = then_only _ _ (text_only galileo line) (λ passed. read_only _ _ _ (one line.text) (λ v. gives_only v))

record_only : (galileo : Option Message) (count : ℕ) (from : Behind) → IsOnly (record_from galileo count from)
record_only galileo count from =
    first_only _ _ (clock_only count) (λ clock l1.
    first_only _ _ (further_only galileo _ last_only) (λ a l2.
    first_only _ _ (further_only galileo _ all_only) (λ b l3.
    first_only _ _ (further_only galileo _ all_only) (λ c l4.
    first_only _ _ (further_only galileo _ all_only) (λ d l5.
    first_only _ _ (further_only galileo _ (sources_only clock.0.system)) (λ idot l6.
    first_only _ _ (further_only galileo _ (health_only _)) (λ health l7.
    first_only _ _ (text_only galileo) (λ none l8. where_only _ _ _ (gives_only _) (gives_only _)) l7.number l7.lines)
    l6.number l6.lines) l5.number l5.lines) l4.number l4.lines) l3.number l3.lines) l2.number l2.lines) l1.number l1.lines) from.number from.lines

-- ---- files

-- a record before what comes later
more_only : (r : Option Broadcast) (later : Result (List Broadcast) Refusal → Type 0) → IsOnly later
    → IsOnly (λ (given : Result (List Broadcast) Refusal). (more : Result (List Broadcast) Refusal) × later more × (given ≡ with_first r more))
more_only r later one x y (m, h, e) (n, k, f) = e ∙ (ap (with_first r) (one m n h k) ∙ sym f)

records_only : (galileo : Option Message) (count number skip : ℕ) (lines : List TextLine) → IsOnly (records_from galileo count number skip lines)
records_only galileo count number skip [] x y a b = a ∙ sym b
records_only galileo count number (suc skip) (line ∷ more) x y a b = records_only galileo count (number + 1) skip more x y a b
records_only galileo count number zero (line ∷ more) x y a b = elim a [
  | inl (begins, h) ↦ elim b [
    | inl (also, k) ↦ then_only _ _ (record_only galileo count (record { number = number; lines = line ∷ more })) (λ r. more_only r _ (records_only galileo (count + 1) (number + 1) 7 more)) x y h k
    | inr (other, k) ↦ absurd (other begins)
  ]
  | inr (other, h) ↦ elim b [
    | inl (begins, k) ↦ absurd (other begins)
    | inr (also, k) ↦ test_only _ _ _ (records_only galileo count (number + 1) 0 more) x y h k
  ]
]

pub file_only : (galileo : Option Message) (lines : List TextLine) (x y : Result (List Broadcast) Refusal)
    → nav_file_of galileo lines x → nav_file_of galileo lines y → x ≡ y
file_only galileo lines = then_only _ _ (version_by_only (is_some galileo) 78 lines) (λ header. then_only _ _ (header_only header.number header.lines) (λ body. records_only galileo 0 body.number 0 (counted body.lines)))

-- ---- answers

pub gives_records : (galileo : Option Message) (text : List ℕ) (records : List Broadcast) (given : Result (List NavRecord) ReadError)
    → IfOk given (λ nav. IsNavFileOf galileo text (records_of nav))
    → IfErr given (Refuses (nav_file_of galileo (lines_of text)))
    → IsNavFileOf galileo text records → GivesRecords records given
gives_records galileo text records (Ok nav) is fault file = ok_same _ _ (file_only galileo (lines_of text) _ _ is file)
gives_records galileo text records (Err (Refused r)) is fault file = absurd (not_both _ _ (file_only galileo (lines_of text) _ _ file fault))
gives_records galileo text records (Err NoMemory) is fault file = refl

pub gives_refusal : (galileo : Option Message) (text : List ℕ) (r : Refusal) (given : Result (List NavRecord) ReadError)
    → IfOk given (λ nav. IsNavFileOf galileo text (records_of nav))
    → IfErr given (Refuses (nav_file_of galileo (lines_of text)))
    → IsFirstFaultOf galileo text r → GivesRefusal r given
gives_refusal galileo text r (Ok nav) is fault first = not_both _ _ (file_only galileo (lines_of text) _ _ is first)
gives_refusal galileo text r (Err (Refused other)) is fault first = inl (ap (λ u. Refused u) (err_same _ _ (file_only galileo (lines_of text) _ _ fault first)))
gives_refusal galileo text r (Err NoMemory) is fault first = inr refl
