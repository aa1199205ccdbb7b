-- The made records, one behind another, and the elements of what they read as.
use Rattle.std.proofs.Common.{◌≡◌, ℕ, zero, suc, ◌+◌, ◌-◌, ◌<◌, List, [], ◌∷◌, ◌++◌, length, map, drop, get_or, sym, ap, subst, ◌∙◌, append_assoc, arith, length-append, Option, Some}
use Rattle.std.specs.Prelude.{slice_get, unwrap_or, is_some}
use Rattle.std.proofs.lemmas.List.{map-append, length-map}
use Rattle.rinex_nav.specs.Reading.{plain_record, records_of}
use Rattle.rinex_nav.specs.Records.{Broadcast}
use Rattle.rinex_nav.specs.declared.record.NavRecord.{NavRecord}
use Rattle.made_texts.specs.NavText.{broadcast_of, IsNamed, AreNamed}
use Rattle.made_texts.specs.declared.ephemeris.Ephemeris.{Ephemeris}
use Rattle.made_input.specs.MadeRecords.{made_broadcast, made_from, made_records, mean_draw, AreWellWritten, AllWellWritten}

-- ---- the records before satellite k

pub record AreMade (records : List Ephemeris) (seed k : ℕ) : Type 0 where
  pub count : length records + 1 ≡ k
  pub named : AreNamed records
  pub written : AllWellWritten records
  pub whole : map broadcast_of records ++ made_from seed k (9 - k) ≡ made_records seed

named_push : (records : List Ephemeris) (e : Ephemeris) → AreNamed records → IsNamed e
    → AreNamed (records ++ e ∷ [])
named_push [] e named is = (is, tt)
named_push (r ∷ records) e named is = (named.0, named_push records e named.1 is)

written_push : (records : List Ephemeris) (e : Ephemeris) → AllWellWritten records
    → AreWellWritten e → AllWellWritten (records ++ e ∷ [])
written_push [] e written is = (is, tt)
written_push (r ∷ records) e written is = (written.0, written_push records e written.1 is)

first_made : (seed k : ℕ) → k < 9
    → made_from seed k (9 - k) ≡ made_broadcast k (mean_draw seed k) ∷ made_from seed (k + 1) (9 - (k + 1))
first_made seed k h =
    let one : 9 - k ≡ suc (9 - (k + 1)) = omega (arith, h) in
    ap (λ (n : ℕ). made_from seed k n) one

pub made_next : (records next : List Ephemeris) (seed k : ℕ) (e : Ephemeris) → k < 9
    → AreMade records seed k → next ≡ records ++ e ∷ []
    → IsNamed e → AreWellWritten e → broadcast_of e ≡ made_broadcast k (mean_draw seed k)
    → AreMade next seed (k + 1)
made_next records next seed k e within made is named written reads = rw is (record {
  count = omega (arith, made.count, length-append records (e ∷ []));
  named = named_push records e made.named named;
  written = written_push records e made.written written;
  whole =
      let later = made_from seed (k + 1) (9 - (k + 1)) in
      ap (λ (l : List Broadcast). l ++ later) (map-append broadcast_of records (e ∷ []))
      ∙ (append_assoc (map broadcast_of records) (broadcast_of e ∷ []) later
      ∙ (ap (λ (b : Broadcast). map broadcast_of records ++ b ∷ later) reads ∙ (ap (λ (l : List Broadcast). map broadcast_of records ++ l) (sym (first_made seed k within)) ∙ made.whole)));
})

-- ---- what they read as

first_of : (b c d : Broadcast) (l m : List Broadcast) → b ∷ l ≡ c ∷ m → b ≡ c
first_of b c d l m e = ap (λ (bs : List Broadcast). get_or bs 0 d) e

rest_of : (b c : Broadcast) (l m : List Broadcast) → b ∷ l ≡ c ∷ m → l ≡ m
rest_of b c l m e = ap (λ (bs : List Broadcast). drop 1 bs) e

none_left : (b : Broadcast) (l : List Broadcast) → b ∷ l ≡ [] → ⊥
none_left b l e = let n = ap length e in omega (arith, n)

pub record_at : (seed k n i : ℕ) (records : List NavRecord) (r : NavRecord)
    → records_of records ≡ made_from seed k n → slice_get records i ≡ Some r
    → plain_record r ≡ made_broadcast (k + i) (mean_draw seed (k + i))
record_at seed k n i [] r e at = let no = ap is_some at in cc
record_at seed k zero i (s ∷ records) r e at = absurd (none_left (plain_record s) (records_of records) e)
record_at seed k (suc n) zero (s ∷ records) r e at =
    let same : s ≡ r = ap (λ (o : Option NavRecord). unwrap_or o s) at in
    let here = first_of (plain_record s) (made_broadcast k (mean_draw seed k)) (plain_record s) (records_of records) (made_from seed (k + 1) n) e in
    let none : k + 0 ≡ k = omega arith in
    rw none (ap plain_record (sym same) ∙ here)
record_at seed k (suc n) (suc i) (s ∷ records) r e at =
    let more = rest_of (plain_record s) (made_broadcast k (mean_draw seed k)) (records_of records) (made_from seed (k + 1) n) e in
    let next : k + suc i ≡ k + 1 + i = omega arith in
    rw next (record_at seed (k + 1) n i records r more at)

pub eight_records : (seed : ℕ) (records : List NavRecord) → records_of records ≡ made_records seed
    → length records ≡ 8
eight_records seed records e = sym (length-map records plain_record) ∙ ap length e

-- satellite k's record stands behind those of k - 1 others
pub record_of : (seed k : ℕ) (records : List NavRecord) (r : NavRecord) (i : ℕ)
    → records_of records ≡ made_records seed → slice_get records i ≡ Some r → 1 + i ≡ k
    → plain_record r ≡ made_broadcast k (mean_draw seed k)
record_of seed k records r i e at place = subst (λ (n : ℕ). plain_record r ≡ made_broadcast n (mean_draw seed n)) place (record_at seed 1 8 i records r e at)
