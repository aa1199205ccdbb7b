-- The records of a body, one behind another.
use Rattle.std.proofs.Common.{◌≡◌, ℕ, Bool, Option, None, Some, zero, suc, ◌+◌, ◌≤◌, List, [], ◌∷◌, ◌++◌, length, drop, map, option_map, arith, refl, sym, ap, subst, inl, inr, Result, Ok, Err, IfErr, append_assoc, ◌∙◌}
use Rattle.std.proofs.lemmas.List.{append-nil}
use Rattle.rinex_text.specs.Faults.{refusal}
use Rattle.rinex_text.specs.Headers.{IsShort}
use Rattle.rinex_text.specs.Lines.{TextLine}
use Rattle.rinex_text.specs.declared.fault.Fault.TheVariants.{LongLine}
use Rattle.rinex_text.specs.declared.fault.ReadError.{ReadError}
use Rattle.rinex_text.specs.declared.fault.Refusal.{Refusal}
use Rattle.gnss_model.specs.declared.systems.Message.{Message}
use Rattle.rinex_nav.specs.Files.{BeginsRecord, with_kept, with_first, records_from}
use Rattle.rinex_nav.specs.Records.{Broadcast, record_from}
use Rattle.rinex_nav.specs.Reading.{with_all, plain_record, listed_of}
use Rattle.rinex_nav.specs.declared.record.NavRecord.{NavRecord}

module _ (galileo : Option Message) where
  -- the lines of a record that was read are passed over
  skipped : (k count n : ℕ) (lines : List TextLine) (answer : Result (List Broadcast) Refusal)
      → k ≤ length lines → records_from galileo count (n + k) 0 (drop k lines) answer
      → records_from galileo count n k lines answer
  skipped zero count n lines answer enough h = let same : n + 0 ≡ n = omega arith in (rw same at h)
  skipped (suc k) count n [] answer enough h = absurd (omega arith)
  skipped (suc k) count n (line ∷ lines) answer enough h =
      let same : n + suc k ≡ n + 1 + k = omega arith in
      skipped k count (n + 1) lines answer (omega arith) (rw same at h)

  pub record_step : (count n m : ℕ) (lines more : List TextLine) (line : TextLine) (r : Option Broadcast) (answer : Result (List Broadcast) Refusal)
      → lines ≡ line ∷ more → BeginsRecord galileo line
      → record_from galileo count (record { number = n; lines = lines }) (Ok r) → 8 ≤ length lines
      → m ≡ n + 8 → records_from galileo (count + 1) m 0 (drop 8 lines) answer
      → records_from galileo count n 0 lines (with_first r answer)
  record_step count n m lines more line r answer e begins is enough number h =
      let there : 8 ≤ length (line ∷ more) = (rw e at enough) in
      let next : m ≡ n + 1 + 7 = omega arith in
      rw e (inl (begins, inl (r, (rw e at is), (answer, skipped 7 (count + 1) (n + 1) more answer (omega arith) (rw (next, e) at h), refl))))

  pub record_fault : (count n : ℕ) (lines more : List TextLine) (line : TextLine) (refused : Refusal)
      → lines ≡ line ∷ more → BeginsRecord galileo line
      → record_from galileo count (record { number = n; lines = lines }) (Err refused)
      → records_from galileo count n 0 lines (Err refused)
  record_fault count n lines more line refused e begins is = rw e (inl (begins, inr (refused, (rw e at is), refl)))

  pub long_fault : (count n : ℕ) (lines more : List TextLine) (line : TextLine)
      → lines ≡ line ∷ more → (BeginsRecord galileo line → ⊥)
      → (IsShort line → ⊥) → records_from galileo count n 0 lines (Err (refusal LongLine n))
  long_fault count n lines more line e other long = rw e (inr (other, inr (long, refl)))

pub listed_one : (found : Option NavRecord) → length (listed_of found) ≤ 1
listed_one None = omega arith
listed_one (Some r) = omega arith

-- a record, where it is kept, behind those before
map_more : (records : List NavRecord) (found : Option NavRecord)
    → map plain_record (records ++ listed_of found) ≡ map plain_record records ++ map plain_record (listed_of found)
map_more [] found = refl
map_more (first ∷ records) found = ap (λ (l : List Broadcast). plain_record first ∷ l) (map_more records found)

kept_first : (found : Option NavRecord) (more : List Broadcast)
    → map plain_record (listed_of found) ++ more ≡ with_kept (option_map plain_record found) more
kept_first None more = refl
kept_first (Some r) more = refl

pub with_more : (records : List NavRecord) (found : Option NavRecord) (answer : Result (List Broadcast) Refusal)
    → with_all (map plain_record (records ++ listed_of found)) answer ≡ with_all (map plain_record records) (with_first (option_map plain_record found) answer)
with_more records found (Ok more) =
    ap (λ (l : List Broadcast). Ok (l ++ more)) (map_more records found)
    ∙ (ap (λ (l : List Broadcast). Ok l) (append_assoc (map plain_record records) (map plain_record (listed_of found)) more)
    ∙ ap (λ (l : List Broadcast). Ok (map plain_record records ++ l)) (kept_first found more))
with_more records found (Err refused) = refl

-- one more record, with its lines
pub record_on : (galileo : Option Message) (records items : List NavRecord) (found : Option NavRecord) (count n m first : ℕ) (lines more after all : List TextLine) (line : TextLine) (answer : Result (List Broadcast) Refusal)
    → items ≡ records ++ listed_of found → lines ≡ line ∷ more → BeginsRecord galileo line
    → record_from galileo count (record { number = n; lines = lines }) (Ok (option_map plain_record found))
    → 8 ≤ length lines → m ≡ n + 8 → after ≡ drop 8 lines
    → ((given : Result (List Broadcast) Refusal) → records_from galileo count n 0 lines given → records_from galileo 0 first 0 all (with_all (map plain_record records) given))
    → records_from galileo (count + 1) m 0 after answer
    → records_from galileo 0 first 0 all (with_all (map plain_record items) answer)
record_on galileo records items found count n m first lines more after all line answer ei e begins is enough number ea inv h =
    let b = subst (λ (l : List TextLine). records_from galileo (count + 1) m 0 l answer) ea h in
    let c = inv (with_first (option_map plain_record found) answer) (record_step galileo count n m lines more line (option_map plain_record found) answer e begins is enough number b) in
    let d = subst (records_from galileo 0 first 0 all) (sym (with_more records found answer)) c in
    subst (λ (l : List NavRecord). records_from galileo 0 first 0 all (with_all (map plain_record l) answer)) (sym ei) d

pub all_read : (galileo : Option Message) (records : List NavRecord) (count n first : ℕ) (lines all : List TextLine)
    → lines ≡ []
    → ((given : Result (List Broadcast) Refusal) → records_from galileo count n 0 lines given → records_from galileo 0 first 0 all (with_all (map plain_record records) given))
    → records_from galileo 0 first 0 all (Ok (map plain_record records))
all_read galileo records count n first lines all e inv =
    subst (λ (l : List Broadcast). records_from galileo 0 first 0 all (Ok l)) (append-nil (map plain_record records)) (inv (Ok []) (rw e refl))

pub in_body : (galileo : Option Message) (n m : ℕ) (lines others : List TextLine) (answer : Result (List Broadcast) Refusal)
    → n ≡ m → lines ≡ others → records_from galileo 0 n 0 lines answer
    → records_from galileo 0 m 0 others answer
in_body galileo n m lines others answer e f h = subst (λ (k : ℕ). records_from galileo 0 k 0 others answer) e (subst (λ (l : List TextLine). records_from galileo 0 n 0 l answer) f h)

pub err_on : {X : Type 0} (inner outer : ReadError → Type 0) (r : Result X ReadError)
    → ((e : ReadError) → inner e → outer e) → IfErr r inner → IfErr r outer
err_on inner outer (Ok x) on h = tt
err_on inner outer (Err e) on h = on e h
