-- Readers with one answer only.
use Rattle.std.proofs.Common.{Bool, ◌≡◌, ℕ, ◌+◌, List, [], ◌∷◌, sym, ap, subst, ◌⊎◌, inl, inr, ◌∙◌, Result, Ok, Err}
use Rattle.rinex_text.specs.Bodies.{first_of}
use Rattle.rinex_text.specs.Counts.{IsNumber}
use Rattle.rinex_text.specs.Faults.{refusal, test, where_holds, read, then, line_gives}
use Rattle.rinex_text.specs.Headers.{Behind, version_line_of, version_by, header_from}
use Rattle.rinex_text.specs.Lines.{TextLine}
use Rattle.rinex_text.specs.declared.fault.Fault.{Fault}
use Rattle.rinex_text.specs.declared.fault.Refusal.{Refusal}
use Rattle.rinex_text.proofs.FieldLemmas.{same_count}

-- the reader has one answer
abbrev pub IsOnly : {X : Type 0} → (X → Type 0) → Type 0
IsOnly {X} reader = (x y : X) → reader x → reader y → x ≡ y

pub test_only : {X E : Type 0} (P : Type 0) (f : E) (later : Result X E → Type 0) → IsOnly later
    → IsOnly (test P f later)
test_only P f later only x y a b = elim a [
  | inl (p, h) ↦ elim b [
    | inl (q, k) ↦ only x y h k
    | inr (other, e) ↦ absurd (other p)
  ]
  | inr (other, e) ↦ elim b [
    | inl (q, k) ↦ absurd (other q)
    | inr (also, f) ↦ e ∙ sym f
  ]
]

pub where_only : {X E : Type 0} (P : Type 0) (first second : Result X E → Type 0) → IsOnly first
    → IsOnly second → IsOnly (where_holds P first second)
where_only P first second one two x y a b = elim a [
  | inl (p, h) ↦ elim b [
    | inl (q, k) ↦ one x y h k
    | inr (other, k) ↦ absurd (other p)
  ]
  | inr (other, h) ↦ elim b [
    | inl (q, k) ↦ absurd (other q)
    | inr (also, k) ↦ two x y h k
  ]
]

pub read_only : {V X E : Type 0} (Is : V → Type 0) (f : E) (later : V → Result X E → Type 0)
    → IsOnly Is → ((v : V) → IsOnly (later v)) → IsOnly (read Is f later)
read_only Is f later one only x y a b = elim a [
  | inl (v, is, h) ↦ elim b [
    | inl (w, also, k) ↦ only w x y (subst (λ u. later u x) (one v w is also) h) k
    | inr (other, e) ↦ absurd (other v is)
  ]
  | inr (other, e) ↦ elim b [
    | inl (w, also, k) ↦ absurd (other w also)
    | inr (also, f) ↦ e ∙ sym f
  ]
]

pub ok_same : {V E : Type 0} (v w : V) → ◌≡◌ {A = Result V E} (Ok v) (Ok w) → v ≡ w
ok_same v w e = cc

pub err_same : {V E : Type 0} (e f : E) → ◌≡◌ {A = Result V E} (Err e) (Err f) → e ≡ f
err_same e f h = cc

pub not_both : {V E : Type 0} (v : V) (e : E) → ◌≡◌ {A = Result V E} (Ok v) (Err e) → ⊥
not_both v e h = cc

pub then_only : {V X E : Type 0} (reader : Result V E → Type 0) (later : V → Result X E → Type 0)
    → IsOnly reader → ((v : V) → IsOnly (later v)) → IsOnly (then reader later)
then_only reader later one only x y a b = elim a [
  | inl (v, r, h) ↦ elim b [
    | inl (w, s, k) ↦ only w x y (subst (λ u. later u x) (ok_same v w (one (Ok v) (Ok w) r s)) h) k
    | inr (e, s, k) ↦ absurd (not_both v e (one (Ok v) (Err e) r s))
  ]
  | inr (e, r, h) ↦ elim b [
    | inl (w, s, k) ↦ absurd (not_both w e (one (Ok w) (Err e) s r))
    | inr (f, s, k) ↦ h ∙ (ap (λ u. Err u) (err_same e f (one (Err e) (Err f) r s)) ∙ sym k)
  ]
]

pub gives_only : {X E : Type 0} (v : X) → IsOnly (λ (answer : Result X E). answer ≡ Ok v)
gives_only v x y a b = a ∙ sym b

pub line_only : {V X : Type 0} (reader : Result V Fault → Type 0) (number : ℕ) (later : V → Result X Refusal → Type 0)
    → IsOnly reader → ((v : V) → IsOnly (later v)) → IsOnly (line_gives reader number later)
line_only reader number later one only x y a b = elim a [
  | inl (v, r, h) ↦ elim b [
    | inl (w, s, k) ↦ only w x y (subst (λ u. later u x) (ok_same v w (one (Ok v) (Ok w) r s)) h) k
    | inr (e, s, k) ↦ absurd (not_both v e (one (Ok v) (Err e) r s))
  ]
  | inr (e, r, h) ↦ elim b [
    | inl (w, s, k) ↦ absurd (not_both w e (one (Ok w) (Err e) s r))
    | inr (f, s, k) ↦ h ∙ (ap (λ u. Err (refusal u number)) (err_same e f (one (Err e) (Err f) r s)) ∙ sym k)
  ]
]

pub number_only : (text : List ℕ) → IsOnly (IsNumber text)
number_only text m n a b = same_count _ m n a.count b.count

pub first_only : {V X : Type 0} (line : TextLine → Result V Fault → Type 0) (later : V → Behind → Result X Refusal → Type 0)
    → ((t : TextLine) → IsOnly (line t)) → ((v : V) (from : Behind) → IsOnly (later v from))
    → (number : ℕ) (lines : List TextLine) → IsOnly (first_of line number lines later)
first_only line later one only number [] x y a b = a ∙ sym b
first_only line later one only number (next ∷ more) x y a b = line_only _ _ _ (one next) (λ v. only v _) x y a b

-- a test that ends a header, or else what comes later
pub ended_only : (End : Type 0) (v : Behind) (later : Result Behind Refusal → Type 0) → IsOnly later
    → IsOnly (λ (given : Result Behind Refusal). (End × (given ≡ Ok v)) ⊎ ((End → ⊥) × later given))
ended_only End v later one x y a b = elim a [
  | inl (end, h) ↦ elim b [
    | inl (also, k) ↦ h ∙ sym k
    | inr (other, k) ↦ absurd (other end)
  ]
  | inr (other, h) ↦ elim b [
    | inl (end, k) ↦ absurd (other end)
    | inr (also, k) ↦ one x y h k
  ]
]

pub header_only : (number : ℕ) (lines : List TextLine) → IsOnly (header_from number lines)
header_only number [] x y a b = a ∙ sym b
header_only number (line ∷ more) x y a b = test_only _ _ _ (ended_only _ _ _ (header_only (number + 1) more)) x y a b

pub version_line_only : (both : Bool) (kind : ℕ) (line : TextLine)
    → IsOnly (version_line_of both kind line)
version_line_only both kind line = test_only _ _ _ (test_only _ _ _ (test_only _ _ _ (test_only _ _ _ (test_only _ _ _ (gives_only tt)))))

pub version_by_only : (both : Bool) (kind : ℕ) (lines : List TextLine)
    → IsOnly (version_by both kind lines)
version_by_only both kind [] x y a b = a ∙ sym b
version_by_only both kind (line ∷ more) x y a b = line_only _ _ _ (version_line_only both kind line) (λ passed. gives_only _) x y a b
