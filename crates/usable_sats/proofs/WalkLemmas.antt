-- A walk over the places of a satellite's records meets all of them.
use Rattle.std.proofs.Common.{◌≡◌, ℕ, ◌+◌, ◌<◌, refl, sym, ap, subst, ◌∙◌, false, List, [], ◌∷◌, ◌++◌, length, Some, slice_get, append_assoc, ◌≤◌, add-one, drop-cons, drop_of_length-le, drop, get_or}
use Rattle.std.proofs.lemmas.Bool.{false≢true}
use Rattle.std.proofs.lemmas.List.{length-append, append-nil}
use Rattle.std.proofs.lemmas.Option.{same_Some, slice_get_within}
use Rattle.rinex_nav.specs.Places.{is_same, places_from, places_of}
use Rattle.rinex_nav.specs.declared.record.NavRecord.{NavRecord}
use Rattle.rinex_nav.proofs.IndexLemmas.{same_is, is_self, by_bool}
use Rattle.gnss_model.specs.declared.satellites.Sat.{Sat}

other_sat : (a b : Sat) → is_same a b ≡ false → b ≡ a → ⊥
other_sat a b differ same = false≢true (sym differ ∙ (ap (is_same a) same ∙ is_self a))

place_last : (records : List NavRecord) (r : NavRecord) (n : ℕ) → n ≡ length records + 1
    → n ≡ length (records ++ r ∷ [])
place_last records r n e = e ∙ sym (length-append records (r ∷ []))

get_behind : {X : Type 0} (front behind : List X) (x : X)
    → slice_get (front ++ x ∷ behind) (length front) ≡ Some x
get_behind [] behind x = refl
get_behind (y ∷ front) behind x = get_behind front behind x

-- what is claimed of records holds with one more of another satellite behind them
abbrev pub PassesOver : Sat → (List NavRecord → Type 0) → Type 0
PassesOver sat Claim =
    (front : List NavRecord) (r : NavRecord) → (r.sat ≡ sat → ⊥) → Claim front
    → Claim (front ++ r ∷ [])

-- what is claimed of the records in front, and the places of the satellite's records behind them
pub record IsWalked (records : List NavRecord) (sat : Sat) (Claim : List NavRecord → Type 0)
    (rest : List ℕ) : Type 0 where
  pub front : List NavRecord
  pub behind : List NavRecord
  pub all : records ≡ front ++ behind
  pub places : places_from (length front) sat behind ≡ rest
  pub claim : Claim front

-- the same before the next record of the satellite
pub record IsAtNext (records : List NavRecord) (sat : Sat) (Claim : List NavRecord → Type 0) (place : ℕ) (r : NavRecord)
    (rest : List ℕ) : Type 0 where
  pub front : List NavRecord
  pub behind : List NavRecord
  pub all : records ≡ front ++ r ∷ behind
  pub at : place ≡ length front
  pub own : r.sat ≡ sat
  pub places : places_from (length front + 1) sat behind ≡ rest
  pub claim : Claim front

pub walk_begins : (records : List NavRecord) (sat : Sat) (Claim : List NavRecord → Type 0) (places : List ℕ)
    → places ≡ places_of records sat → Claim [] → IsWalked records sat Claim places
walk_begins records sat Claim places e claim = record { front = []; behind = records; all = refl; places = sym e; claim = claim }

module _ (records : List NavRecord) (sat : Sat) (Claim : List NavRecord → Type 0) (over : PassesOver sat Claim) where
  next_from : (front behind : List NavRecord) (place : ℕ) (rest : List ℕ)
      → records ≡ front ++ behind → places_from (length front) sat behind ≡ place ∷ rest
      → Claim front → (r : NavRecord) × IsAtNext records sat Claim place r rest
  next_from front [] place rest all places claim = absurd cc
  next_from front (q ∷ behind) place rest all places claim = by_bool (is_same sat q.sat)
      (λ yes.
      let here = rw yes at places in
      (q, record { front = front; behind = behind; all = all; at = cc; own = sym (same_is sat q.sat yes); places = cc; claim = claim }))
      (λ differ.
      let later = rw differ at places in
      next_from (front ++ q ∷ []) behind place rest (all ∙ sym (append_assoc front (q ∷ []) behind))
      (subst (λ (n : ℕ). places_from n sat behind ≡ place ∷ rest) (place_last front q _ refl) later)
      (over front q (other_sat sat q.sat differ) claim))

  end_from : (front behind : List NavRecord) → records ≡ front ++ behind
      → places_from (length front) sat behind ≡ [] → Claim front → Claim records
  end_from front [] all places claim = subst Claim (sym (all ∙ append-nil front)) claim
  end_from front (q ∷ behind) all places claim = by_bool (is_same sat q.sat)
      (λ yes. let here = rw yes at places in absurd cc)
      (λ differ.
      let later = rw differ at places in
      end_from (front ++ q ∷ []) behind (all ∙ sym (append_assoc front (q ∷ []) behind))
      (subst (λ (n : ℕ). places_from n sat behind ≡ []) (place_last front q _ refl) later)
      (over front q (other_sat sat q.sat differ) claim))

  next_get : (place : ℕ) (r : NavRecord) (rest : List ℕ) → IsAtNext records sat Claim place r rest
      → slice_get records place ≡ Some r
  next_get place r rest n = rw (n.all, n.at) (get_behind n.front n.behind r)

  -- ---- by the index of a place

  -- the place has a record of the satellite
  at_place : (places : List ℕ) (k : ℕ) → IsWalked records sat Claim (drop k places)
      → k < length places
      → (r : NavRecord) × IsAtNext records sat Claim (get_or places k 0) r (drop (k + 1) places)
  at_place places k w h =
      let next : drop k places ≡ get_or places k 0 ∷ drop (k + 1) places = rw (add-one, drop-cons places k 0) refl in
      next_from w.front w.behind (get_or places k 0) (drop (k + 1) places) w.all (w.places ∙ next) w.claim

  pub place_within : (places : List ℕ) (k : ℕ) → IsWalked records sat Claim (drop k places)
      → k < length places → get_or places k 0 < length records
  place_within places k w h =
      let n = at_place places k w h in
      slice_get_within records (get_or places k 0) n.0 (next_get _ n.0 _ n.1)

  pub place_own : (places : List ℕ) (k : ℕ) (r : NavRecord)
      → IsWalked records sat Claim (drop k places) → k < length places
      → slice_get records (get_or places k 0) ≡ Some r → r.sat ≡ sat
  place_own places k r w h at =
      let n = at_place places k w h in
      let same = same_Some n.0 r (sym (next_get _ n.0 _ n.1) ∙ at) in
      subst (λ (q : NavRecord). q.sat ≡ sat) same n.1.own

  -- behind it the walk goes on
  pub walk_step : (More : List NavRecord → Type 0) (places : List ℕ) (k : ℕ) (r : NavRecord)
      → IsWalked records sat Claim (drop k places) → k < length places
      → slice_get records (get_or places k 0) ≡ Some r
      → ((front : List NavRecord) → get_or places k 0 ≡ length front → r.sat ≡ sat → Claim front → More (front ++ r ∷ []))
      → IsWalked records sat More (drop (k + 1) places)
  walk_step More places k r w h at step =
      let n = at_place places k w h in
      let same = same_Some n.0 r (sym (next_get _ n.0 _ n.1) ∙ at) in
      let own = subst (λ (q : NavRecord). q.sat ≡ sat) same n.1.own in
      record {
        front = n.1.front ++ n.0 ∷ [];
        behind = n.1.behind;
        all = n.1.all ∙ sym (append_assoc n.1.front (n.0 ∷ []) n.1.behind);
        places = subst (λ (m : ℕ). places_from m sat n.1.behind ≡ drop (k + 1) places) (place_last n.1.front n.0 _ refl) n.1.places;
        claim = subst (λ (q : NavRecord). More (n.1.front ++ q ∷ [])) (sym same) (step n.1.front n.1.at own n.1.claim);
      }

  pub walk_ends : (places : List ℕ) (k : ℕ) → IsWalked records sat Claim (drop k places)
      → length places ≤ k → Claim records
  walk_ends places k w h = end_from w.front w.behind w.all (w.places ∙ drop_of_length-le places {i = k} h) w.claim
