-- The first fault of a file comes of the lines up to it.
use Rattle.std.proofs.Common.{◌≡◌, ℕ, zero, suc, ◌+◌, ◌-◌, ◌≤◌, ◌∙◌, Bool, true, false, List, [], ◌∷◌, ◌++◌, length, take, drop, refl, ap, sym, subst, inl, inr, arith, Result, Ok, Err}
use Rattle.std.specs.Prelude.{◌&&◌}
use Rattle.std.specs.List.{list_all}
use Rattle.std.proofs.lemmas.Bool.{cases_Bool}
use Rattle.rinex_text.specs.Bodies.{is_blank_line, counted_with, counted, first_of}
use Rattle.rinex_text.specs.Faults.{refusal}
use Rattle.rinex_text.specs.Headers.{Behind, version_by, header_from}
use Rattle.rinex_text.specs.Lines.{TextLine}
use Rattle.rinex_text.specs.Whole.{AgreeTo}
use Rattle.rinex_text.specs.declared.fault.Fault.{Fault}
use Rattle.rinex_text.specs.declared.fault.Fault.TheVariants.{NotRinex, NoEndOfHeader, LongLine, Truncated}
use Rattle.rinex_text.specs.declared.fault.Refusal.{Refusal}
use Rattle.rinex_text.proofs.OnlyLemmas.{err_same, ok_same, not_both}

-- ---- lists that begin alike

pub alike_none : (k : ℕ) (others : List TextLine) → take (suc k) [] ≡ take (suc k) others
    → others ≡ []
alike_none k [] e = refl
alike_none k (line ∷ more) e = absurd cc

-- they begin with this line, and go on alike
pub record BeginWith (k : ℕ) (line : TextLine) (more others : List TextLine) : Type 0 where
  pub rest : List TextLine
  pub spelled : others ≡ line ∷ rest
  pub alike : take k more ≡ take k rest

pub begin_with : (k : ℕ) (line : TextLine) (more others : List TextLine)
    → take (suc k) (line ∷ more) ≡ take (suc k) others → BeginWith k line more others
begin_with k line more [] e = absurd cc
begin_with k line more (next ∷ rest) e =
    let first : line ≡ next = cc in
    record { rest = rest; spelled = ap (λ (l : TextLine). l ∷ rest) (sym first); alike = cc }

pub alike_less : (j k : ℕ) (these those : List TextLine) → j ≤ k → take k these ≡ take k those
    → take j these ≡ take j those
alike_less zero k these those h e = refl
alike_less (suc j) zero these those h e = absurd (omega (arith, h))
alike_less (suc j) (suc k) [] those h e = rw (alike_none k those e) refl
alike_less (suc j) (suc k) (line ∷ more) those h e =
    let begun = begin_with k line more those e in
    rw begun.spelled (ap (λ (l : List TextLine). line ∷ l) (alike_less j k more begun.rest (omega (arith, h)) begun.alike))

-- they begin with these lines, and go on alike
pub record GoOnFrom (k : ℕ) (front more others : List TextLine) : Type 0 where
  pub rest : List TextLine
  pub spelled : others ≡ front ++ rest
  pub alike : take k more ≡ take k rest

pub go_on_from : (k n : ℕ) (front more others : List TextLine) → n ≡ length front + k
    → take n (front ++ more) ≡ take n others → GoOnFrom k front more others
go_on_from k n [] more others h e =
    record { rest = others; spelled = refl; alike = subst (λ (m : ℕ). take m more ≡ take m others) (omega (arith, h)) e }
go_on_from k zero (line ∷ front) more others h e = absurd (omega (arith, h))
go_on_from k (suc n) (line ∷ front) more others h e =
    let begun = begin_with n line (front ++ more) others e in
    let further = go_on_from k n front more begun.rest (omega (arith, h)) begun.alike in
    record { rest = further.rest; spelled = begun.spelled ∙ ap (λ (l : List TextLine). line ∷ l) further.spelled; alike = further.alike }

pub drop_front : (k n : ℕ) (front more : List TextLine) → n ≡ length front + k
    → drop n (front ++ more) ≡ drop k more
drop_front k n [] more h = ap (λ (m : ℕ). drop m more) (omega (arith, h))
drop_front k zero (line ∷ front) more h = absurd (omega (arith, h))
drop_front k (suc n) (line ∷ front) more h = drop_front k n front more (omega (arith, h))

-- ---- the lines that count

none_counts : (lines : List TextLine) → list_all is_blank_line lines ≡ true → counted lines ≡ []
none_counts [] e = refl
none_counts (line ∷ more) e = elim (cases_Bool (is_blank_line line)) [
  | inl h ↦ rw (none_counts more (subst (λ (b : Bool). (b && list_all is_blank_line more) ≡ true) h e)) (rw h refl)
  | inr h ↦ absurd (let f : false ≡ true = subst (λ (b : Bool). (b && list_all is_blank_line more) ≡ true) h e in cc)
]

-- the first line counts
record BeginsWith (line : TextLine) (counting : List TextLine) : Type 0 where
  later : List TextLine
  spelled : counting ≡ line ∷ later

counts_before : (line : TextLine) (counting : List TextLine)
    → (counting ≡ [] → is_blank_line line ≡ false) → BeginsWith line (counted_with line counting)
counts_before line [] solid = rw (solid refl) (record { later = []; spelled = refl })
counts_before line (next ∷ more) solid = record { later = next ∷ more; spelled = refl }

all_blank : (lines : List TextLine) → counted lines ≡ [] → list_all is_blank_line lines ≡ true
all_blank [] e = refl
all_blank (line ∷ more) e = elim (cases_Bool (is_blank_line line)) [
  | inl h ↦ elim (cases_Bool (list_all is_blank_line more)) [
    | inl all ↦ rw (h, all) refl
    | inr some ↦ absurd (let b = counts_before line (counted more) (λ none. absurd (let f : true ≡ false = sym (all_blank more none) ∙ some in cc)) in
        let f : ◌≡◌ {A = List TextLine} [] (line ∷ b.later) = sym e ∙ b.spelled in cc)
  ]
  | inr h ↦ absurd (let b = counts_before line (counted more) (λ none. h) in
      let f : ◌≡◌ {A = List TextLine} [] (line ∷ b.later) = sym e ∙ b.spelled in cc)
]

some_counts : (line : TextLine) (more : List TextLine)
    → list_all is_blank_line (line ∷ more) ≡ false → BeginsWith line (counted (line ∷ more))
some_counts line more some = counts_before line (counted more) (λ none. elim (cases_Bool (is_blank_line line)) [
  | inl h ↦ absurd (let f : true ≡ false = sym (rw (h, all_blank more none) refl) ∙ some in cc)
  | inr h ↦ h
])

counted_more : (k : ℕ) (line : TextLine) (these those : List TextLine)
    → take (suc k) these ≡ take (suc k) those
    → take (suc (suc k)) (counted_with line these) ≡ take (suc (suc k)) (counted_with line those)
counted_more k line [] those e = rw (alike_none k those e) refl
counted_more k line (next ∷ more) those e =
    let begun = begin_with k next more those e in
    rw begun.spelled (ap (λ (l : List TextLine). line ∷ next ∷ l) begun.alike)

pub counted_alike : (k : ℕ) (these those : List TextLine) → take (suc k) these ≡ take (suc k) those
    → list_all is_blank_line (drop k these) ≡ list_all is_blank_line (drop k those)
    → take (suc k) (counted these) ≡ take (suc k) (counted those)
counted_alike k [] those e blank = rw (alike_none k those e) refl
counted_alike zero (line ∷ more) those e blank =
    let begun = begin_with 0 line more those e in
    elim (cases_Bool (list_all is_blank_line (line ∷ more))) [
      | inl all ↦ rw (none_counts (line ∷ more) all, none_counts those (sym blank ∙ all)) refl
      | inr some ↦
          let these_are = some_counts line more some in
          let those_are = some_counts line begun.rest (subst (λ (l : List TextLine). list_all is_blank_line l ≡ false) begun.spelled (sym blank ∙ some)) in
          rw begun.spelled (ap (take 1) these_are.spelled ∙ sym (ap (take 1) those_are.spelled))
    ]
counted_alike (suc k) (line ∷ more) those e blank =
    let begun = begin_with (suc k) line more those e in
    let same : list_all is_blank_line (drop k more) ≡ list_all is_blank_line (drop k begun.rest) = blank ∙ ap (λ (l : List TextLine). list_all is_blank_line (drop (suc k) l)) begun.spelled in
    rw begun.spelled (counted_more k line (counted more) (counted begun.rest) (counted_alike k more begun.rest begun.alike same))

-- ---- readers of lines from a number on

-- this fault comes of the lines up to its own
pub record Settles {X : Type 0} (number : ℕ) (reader : List TextLine → Result X Refusal → Type 0) (lines : List TextLine) (r : Refusal) : Type 0 where
  pub behind : ℕ
  pub line_is : r.line ≡ number + behind
  pub moves : (others : List TextLine) → take (suc behind) lines ≡ take (suc behind) others
      → reader others (Err r)

-- each fault of the reader does
abbrev pub AreSettled : {X : Type 0} → ℕ → (List TextLine → Result X Refusal → Type 0) → Type 0
AreSettled number reader = (lines : List TextLine) (r : Refusal) → reader lines (Err r) → Settles number reader lines r

-- what is read comes of the first so many lines
abbrev pub IsReadOf : {X : Type 0} → ℕ → (List TextLine → Result X Refusal → Type 0) → Type 0
IsReadOf {X} k reader = (lines : List TextLine) (x : X) → reader lines (Ok x) → (others : List TextLine) → take k lines ≡ take k others → reader others (Ok x)

fault_line : (r : Refusal) (f : Fault) (number : ℕ) {X : Type 0}
    → ◌≡◌ {A = Result X Refusal} (Err r) (Err (refusal f number)) → r.line ≡ number + 0
fault_line r f number e = omega (arith, ap (λ (s : Refusal). s.line) (err_same r (refusal f number) e))

-- the reader fails at its first line, or for want of one
pub settled_here : {X : Type 0} (number : ℕ) (reader : List TextLine → Result X Refusal → Type 0) (line : TextLine) (more : List TextLine) (r : Refusal) (f : Fault)
    → ◌≡◌ {A = Result X Refusal} (Err r) (Err (refusal f number))
    → ((rest : List TextLine) → reader (line ∷ rest) (Err r))
    → Settles number reader (line ∷ more) r
settled_here number reader line more r f e fails = record {
  behind = 0;
  line_is = fault_line r f number e;
  moves = λ others same. let begun = begin_with 0 line more others same in
      subst (λ (l : List TextLine). reader l (Err r)) (sym begun.spelled) (fails begun.rest);
}

pub settled_at_end : {X : Type 0} (number : ℕ) (reader : List TextLine → Result X Refusal → Type 0) (r : Refusal) (f : Fault)
    → ◌≡◌ {A = Result X Refusal} (Err r) (Err (refusal f number)) → reader [] (Err r)
    → Settles number reader [] r
settled_at_end number reader r f e fails = record {
  behind = 0;
  line_is = fault_line r f number e;
  moves = λ others same. subst (λ (l : List TextLine). reader l (Err r)) (sym (alike_none 0 others same)) fails;
}

-- the fault comes behind the first line
unfoldable pub settled_later : {X Y : Type 0} (number : ℕ) (reader : List TextLine → Result X Refusal → Type 0) (later : List TextLine → Result Y Refusal → Type 0) (line : TextLine) (more : List TextLine) (r : Refusal) (s : Settles (number + 1) later more r)
    → ((rest : List TextLine) → take (suc s.behind) more ≡ take (suc s.behind) rest → reader (line ∷ rest) (Err r))
    → Settles number reader (line ∷ more) r
settled_later number reader later line more r s goes = record {
  behind = suc s.behind;
  line_is = omega (arith, s.line_is);
  moves = λ others same. let begun = begin_with (suc s.behind) line more others same in
      subst (λ (l : List TextLine). reader l (Err r)) (sym begun.spelled) (goes begun.rest begun.alike);
}

module _ {V X : Type 0} (reader : TextLine → Result V Fault → Type 0) (number : ℕ) (later : V → Behind → Result X Refusal → Type 0) where
  pub first_settled : ((v : V) → AreSettled (number + 1) (λ more. later v (record { number = number + 1; lines = more })))
      → AreSettled number (λ lines. first_of reader number lines later)
  first_settled next [] r e = settled_at_end number (λ lines. first_of reader number lines later) r Truncated e e
  first_settled next (line ∷ more) r (inl (v, is, goes)) =
      let s = next v more r goes in
      settled_later number (λ lines. first_of reader number lines later) (λ rest. later v (record { number = number + 1; lines = rest })) line more r s
      (λ rest same. inl (v, is, s.moves rest same))
  first_settled next (line ∷ more) r (inr (f, is, e)) =
      settled_here number (λ lines. first_of reader number lines later) line more r f e (λ rest. inr (f, is, e))

  pub first_read : (k : ℕ)
      → ((v : V) → IsReadOf k (λ more. later v (record { number = number + 1; lines = more })))
      → IsReadOf (suc k) (λ lines. first_of reader number lines later)
  first_read k next [] x e others same = absurd (not_both x (refusal Truncated number) e)
  first_read k next (line ∷ more) x (inl (v, is, goes)) others same =
      let begun = begin_with k line more others same in
      subst (λ (l : List TextLine). first_of reader number l later (Ok x)) (sym begun.spelled) (inl (v, is, next v more x goes begun.rest begun.alike))
  first_read k next (line ∷ more) x (inr (f, is, e)) others same = absurd (not_both x (refusal f number) e)

-- ---- headers

pub version_by_settled : (both : Bool) (kind : ℕ) → AreSettled 1 (version_by both kind)
version_by_settled both kind [] r e = settled_at_end 1 (version_by both kind) r NotRinex e e
version_by_settled both kind (line ∷ more) r (inl (v, is, e)) = absurd (not_both _ r (sym e))
version_by_settled both kind (line ∷ more) r (inr (f, is, e)) = settled_here 1 (version_by both kind) line more r f e (λ rest. inr (f, is, e))

-- a version line that is passed, with other lines behind it
pub version_by_passed : (both : Bool) (kind : ℕ) (line : TextLine) (more rest : List TextLine) (version : Behind)
    → version_by both kind (line ∷ more) (Ok version)
    → (version.lines ≡ more) × (version.number ≡ 2) × version_by both kind (line ∷ rest) (Ok (record { number = 2; lines = rest }))
version_by_passed both kind line more rest version (inl (v, is, e)) =
    let same = ok_same version _ e in
    (ap (λ (b : Behind). b.lines) same, ap (λ (b : Behind). b.number) same, inl (v, is, refl))
version_by_passed both kind line more rest version (inr (f, is, e)) = absurd (not_both _ _ e)

pub header_settled : (number : ℕ) → AreSettled number (header_from number)
header_settled number [] r e = settled_at_end number (header_from number) r NoEndOfHeader e e
header_settled number (line ∷ more) r (inl (short, inl (is, e))) = absurd (not_both _ r (sym e))
header_settled number (line ∷ more) r (inl (short, inr (other, h))) =
    let s = header_settled (number + 1) more r h in
    settled_later number (header_from number) (header_from (number + 1)) line more r s (λ rest same. inl (short, inr (other, s.moves rest same)))
header_settled number (line ∷ more) r (inr (long, e)) = settled_here number (header_from number) line more r LongLine e (λ rest. inr (long, e))

-- A header was read, and stands whatever is behind it. `with` is what it gives, with lines behind it.
pub record IsFront {X : Type 0} (number : ℕ) (reader : List TextLine → Result X Refusal → Type 0) (lines : List TextLine) (behind : Behind) (with : List TextLine → X) : Type 0 where
  pub front : List TextLine
  pub spelled : lines ≡ front ++ behind.lines
  pub number_is : behind.number ≡ number + length front
  pub stands : (rest : List TextLine) → reader (front ++ rest) (Ok (with rest))

pub header_front : (number : ℕ) (lines : List TextLine) (behind : Behind)
    → header_from number lines (Ok behind)
    → IsFront number (header_from number) lines behind (λ rest. record { number = behind.number; lines = rest })
header_front number [] behind e = absurd (not_both _ _ e)
header_front number (line ∷ more) behind (inl (short, inl (is, e))) =
    let same : behind ≡ record { number = number + 1; lines = more } = ok_same behind _ e in
    let next : behind.number ≡ number + 1 = ap (λ (b : Behind). b.number) same in
    record {
      front = line ∷ [];
      spelled = ap (λ (b : Behind). line ∷ b.lines) (sym same);
      number_is = next;
      stands = λ rest. inl (short, inl (is, ap (λ (n : ℕ). Ok (record { number = n; lines = rest })) next));
    }
header_front number (line ∷ more) behind (inl (short, inr (other, h))) =
    let f = header_front (number + 1) more behind h in
    record {
      front = line ∷ f.front;
      spelled = ap (λ (l : List TextLine). line ∷ l) f.spelled;
      number_is = omega (arith, f.number_is);
      stands = λ rest. inl (short, inr (other, f.stands rest));
    }
header_front number (line ∷ more) behind (inr (long, e)) = absurd (not_both _ _ e)

-- ---- files

-- a header and a body, where the fault stands in the body
pub record InBody (k : ℕ) (version : TextLine) (front behind others : List TextLine) : Type 0 where
  pub rest : List TextLine
  pub spelled : others ≡ version ∷ (front ++ rest)
  pub alike : take (suc k) (counted behind) ≡ take (suc k) (counted rest)

pub in_body : (k line : ℕ) (version : TextLine) (front behind others : List TextLine)
    → line ≡ (2 + length front) + k → AgreeTo line (version ∷ (front ++ behind)) others
    → InBody k version front behind others
in_body k line version front behind others e agree =
    let top = version ∷ front in
    let from : line - 1 ≡ length top + k = omega (arith, e) in
    let further = go_on_from (suc k) line top behind others (omega (arith, e)) agree.same in
    let same : list_all is_blank_line (drop k behind) ≡ list_all is_blank_line (drop k further.rest) =
    ap (list_all is_blank_line) (sym (drop_front k (line - 1) top behind from))
    ∙ (agree.blank ∙ (ap (λ (l : List TextLine). list_all is_blank_line (drop (line - 1) l)) further.spelled ∙ ap (list_all is_blank_line) (drop_front k (line - 1) top further.rest from))) in
    record { rest = further.rest; spelled = further.spelled; alike = counted_alike k behind further.rest further.alike same }

-- the fault stands in the header
pub in_header : (k line : ℕ) (version : TextLine) (more others : List TextLine) → line ≡ 2 + k
    → AgreeTo line (version ∷ more) others → BeginWith (suc k) version more others
in_header k line version more others e agree =
    let up_to : line ≡ suc (suc k) = omega (arith, e) in
    begin_with (suc k) version more others (subst (λ (n : ℕ). take n (version ∷ more) ≡ take n others) up_to agree.same)
