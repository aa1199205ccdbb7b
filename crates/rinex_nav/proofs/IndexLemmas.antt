-- One more record in the index.
use Rattle.std.proofs.Common.{◌≡◌, ℕ, ◌+◌, arith, refl, sym, ap, subst, ◌∙◌, Bool, true, false, cond, ◌&&◌, nat_eq, List, [], ◌∷◌, ◌++◌, length, Some, None, if◌then◌else◌}
use Rattle.std.specs.Prelude.{Vec}
use Rattle.std.proofs.lemmas.Bool.{eqb-true, eq-eqb, false≢true}
use Rattle.std.proofs.lemmas.List.{append-nil}
use Rattle.indexmap.specs.IndexMap.{IndexMap, get_by}
use Rattle.gnss_model.specs.declared.satellites.Sat.{Sat}
use Rattle.rinex_nav.specs.Index.{listed, IsIndex}
use Rattle.rinex_nav.specs.Places.{is_same, places_from}
use Rattle.rinex_nav.specs.declared.record.NavRecord.{NavRecord}

and_both : (a b : Bool) → a && b ≡ true → (a ≡ true) × (b ≡ true)
and_both true true h = (refl, refl)
and_both true false h = absurd cc
and_both false b h = absurd cc

pub same_is : (a b : Sat) → is_same a b ≡ true → a ≡ b
same_is a b h =
    let both = and_both (nat_eq a.system b.system) (nat_eq a.number b.number) h in
    let system = eqb-true a.system b.system both.0 in
    let number = eqb-true a.number b.number both.1 in
    λ i. record { system = system i; number = number i }

pub is_self : (s : Sat) → is_same s s ≡ true
is_self s = rw (eq-eqb s.system s.system refl, eq-eqb s.number s.number refl) refl

pub by_bool : {P : Type 0} (b : Bool) → (b ≡ true → P) → (b ≡ false → P) → P
by_bool true f g = f refl
by_bool false f g = g refl

other_way : (a b : Sat) → is_same a b ≡ false → is_same b a ≡ false
other_way a b h = by_bool (is_same b a) (λ yes. absurd (false≢true (sym h ∙ subst (λ (s : Sat). is_same s b ≡ true) (same_is b a yes) (is_self b)))) (λ no. no)

-- a new satellite is listed
pub new_listed : {S Z : Type 0} (before after : IndexMap Sat (Vec ℕ Z) S) (sat : Sat) (place : ℕ) (list : Vec ℕ Z)
    → list.items ≡ place ∷ [] → get_by (is_same sat) before ≡ None
    → ((q : Sat) → get_by (is_same q) after ≡ cond (is_same sat q) (Some list) (get_by (is_same q) before))
    → (other : Sat)
    → listed after other ≡ listed before other ++ (if is_same other sat then place ∷ [] else [])
new_listed {S} {Z} before after sat place list is none updates other = by_bool (is_same sat other)
    (λ h. subst (λ (o : Sat). listed after o ≡ listed before o ++ (if is_same o sat then place ∷ [] else [])) (same_is sat other h)
    (let yes = is_self sat in let there = updates sat ∙ ap (λ (b : Bool). cond b (Some list) (get_by (is_same sat) before)) yes in rw (there, none, yes) is))
    (λ h. let there = updates other ∙ ap (λ (b : Bool). cond b (Some list) (get_by (is_same other) before)) h in rw (there, other_way sat other h) (sym (append-nil (listed before other))))

places_more : (place n : ℕ) (sat : Sat) (records : List NavRecord) (r : NavRecord)
    → n ≡ place + length records
    → places_from place sat (records ++ r ∷ []) ≡ places_from place sat records ++ (if is_same sat r.sat then n ∷ [] else [])
places_more place n sat [] r e = let same : place ≡ n = omega arith in rw same refl
places_more place n sat (first ∷ records) r e =
    let more = places_more (place + 1) n sat records r (omega arith) in
    elim (is_same sat first.sat) as (λ b. (if b then place ∷ places_from (place + 1) sat (records ++ r ∷ []) else places_from (place + 1) sat (records ++ r ∷ [])) ≡ (if b then place ∷ places_from (place + 1) sat records else places_from (place + 1) sat records) ++ (if is_same sat r.sat then n ∷ [] else [])) [
      | true ↦ ap (λ (l : List ℕ). place ∷ l) more
      | false ↦ more
    ]

pub index_more : {S Z : Type 0} (before after : IndexMap Sat (Vec ℕ Z) S) (records items : List NavRecord) (r : NavRecord) (n : ℕ)
    → IsIndex before records → n ≡ length records → items ≡ records ++ r ∷ []
    → ((other : Sat) → listed after other ≡ listed before other ++ (if is_same other r.sat then n ∷ [] else []))
    → IsIndex after items
index_more before after records items r n is len added noted sat =
    noted sat ∙ (ap (λ (l : List ℕ). l ++ (if is_same sat r.sat then n ∷ [] else [])) (is sat) ∙ (sym (places_more 0 n sat records r (omega (arith, len))) ∙ ap (places_from 0 sat) (sym added)))
