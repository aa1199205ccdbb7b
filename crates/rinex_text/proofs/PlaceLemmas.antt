-- The first of the places that an iterator of `memchr` gives is the first that passes.
use Rattle.std.proofs.Common.{◌≡◌, ℕ, zero, suc, ◌+◌, ◌-◌, Bool, true, false, List, [], ◌∷◌, length, get_or, Option, None, Some, ap, subst, arith, inl, inr}
use Rattle.std.specs.Prelude.{slice_index}
use Rattle.std.proofs.lemmas.Bool.{cases_Bool, cases_lt}
use Rattle.memchr.specs.Find.{IsFirstByte, TakesFirst, Passes, Nowhere, NoneBefore, places_from, places}

module _ (test : ℕ → Bool) (hay : List ℕ) where
  fails : (i k : ℕ) → test (slice_index hay i) ≡ false → k ≡ i → ¬ Passes test hay k
  fails i k misses same passes = absurd (let hits : test (slice_index hay i) ≡ true = rw same at passes in cc)

  -- where the byte at a place doesn't pass and none behind it does, none does from it on
  from_next : (i j : ℕ) → test (slice_index hay i) ≡ false → Nowhere (Passes test hay) (i + 1) j
      → Nowhere (Passes test hay) i j
  from_next i j misses none k low high passes = elim (cases_lt i k) [
    | inl behind ↦ none k (omega arith) high passes
    | inr here ↦ fails i k misses (omega arith) passes
  ]

  none_from : (i n : ℕ) → places_from test hay i n ≡ [] → Nowhere (Passes test hay) i (i + n)
  unfolding places_from
  none_from i zero e = λ k low high passes. absurd (omega arith)
  none_from i (suc n) e = elim (cases_Bool (test (slice_index hay i))) [
    | inl hits ↦ absurd (let some : i ∷ places_from test hay (i + 1) n ≡ [] = rw hits at e in cc)
    | inr misses ↦
        let end : i + 1 + n ≡ i + suc n = omega arith in
        from_next i (i + suc n) misses (subst (Nowhere (Passes test hay) (i + 1)) end (none_from (i + 1) n (rw misses at e)))
  ]

  -- a place that leads the list of those from i on
  record Leads (i n place : ℕ) : Type 0 where
    pub first : NoneBefore (Passes test hay) i (i + n) place
    pub passes : Passes test hay place

  leads_from : (i n place : ℕ) (rest : List ℕ) → places_from test hay i n ≡ place ∷ rest
      → Leads i n place
  unfolding places_from
  leads_from i zero place rest e = absurd cc
  leads_from i (suc n) place rest e = elim (cases_Bool (test (slice_index hay i))) [
    | inl hits ↦
        let found : i ∷ places_from test hay (i + 1) n ≡ place ∷ rest = rw hits at e in
        let here : i ≡ place = ap (λ (l : List ℕ). get_or l 0 0) found in
        record {
          first = record { low = omega arith; high = omega arith; before = λ k low high passes. absurd (omega arith) };
          passes = subst (Passes test hay) here hits;
        }
    | inr misses ↦
        let next = leads_from (i + 1) n place rest (rw misses at e) in
        record {
          first = record {
            low = omega (arith, next.first.low);
            high = omega (arith, next.first.high);
            before = from_next i place misses next.first.before;
          };
          passes = next.passes;
        }
  ]

  pub first_place : (r : Option ℕ) (left : List ℕ) → TakesFirst (places test hay) r left
      → IsFirstByte test hay r
  first_place None left took = let none = none_from 0 (length hay - 0) took.0 in λ k low high passes. none k low (omega arith) passes
  first_place (Some place) left took =
      let leads = leads_from 0 (length hay - 0) place left took in
      (record { low = leads.first.low; high = omega (arith, leads.first.high); before = leads.first.before }, leads.passes)
