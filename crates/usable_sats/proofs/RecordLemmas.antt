-- What records meet of a list with one more record at its end, and the nearest of them.
use Rattle.std.proofs.Common.{◌≡◌, ℕ, zero, suc, ◌<◌, arith, refl, ap, subst, List, [], ◌∷◌, ◌++◌, length, Some, slice_get, inl, inr, ◌⊎◌}
use Rattle.std.specs.Prelude.{Option, ℤ, ◌≤ℤ◌, ◌<ℤ◌}
use Rattle.std.proofs.lemmas.Int.{ints}
use Rattle.error_bounds.specs.declared.settings.Settings.{Settings}
use Rattle.gnss_model.specs.declared.satellites.GalileoUse.{GalileoUse}
use Rattle.rinex_nav.specs.declared.record.NavRecord.{NavRecord}
use Rattle.rinex_obs.specs.declared.obs.SatObs.{SatObs}
use Rattle.usable_sats.specs.Answers.{IsRecent}
use Rattle.usable_sats.specs.Usability.{sighting_by}
use Rattle.usable_sats.specs.Usability.{Sighting, IsItsRecord, IsHealthy, IsFresh, IsFit, IsNearest}

-- ---- lists

get_front : {X : Type 0} (xs : List X) (y : X) (i : ℕ) (x : X) → slice_get xs i ≡ Some x
    → slice_get (xs ++ y ∷ []) i ≡ Some x
get_front [] y i x e = absurd cc
get_front (z ∷ xs) y zero x e = e
get_front (z ∷ xs) y (suc i) x e = get_front xs y i x e

get_last : {X : Type 0} (xs : List X) (y : X) → slice_get (xs ++ y ∷ []) (length xs) ≡ Some y
get_last [] y = refl
get_last (z ∷ xs) y = get_last xs y

get_split : {X : Type 0} (xs : List X) (y : X) (i : ℕ) (x : X) → slice_get (xs ++ y ∷ []) i ≡ Some x
    → (slice_get xs i ≡ Some x) ⊎ ((i ≡ length xs) × (x ≡ y))
get_split [] y zero x e = inr (refl, cc)
get_split [] y (suc i) x e = absurd cc
get_split (z ∷ xs) y zero x e = inl e
get_split (z ∷ xs) y (suc i) x e = elim (get_split xs y i x e) [
  | inl front ↦ inl front
  | inr last ↦ inr (ap suc last.0, last.1)
]

-- ---- records

module _ (galileo : Option GalileoUse) (settings : Settings) (tag : ℤ) (seen : SatObs) (records : List NavRecord) (r : NavRecord) where
  abbrev pub before : Sighting
  before = sighting_by galileo records settings tag seen

  abbrev pub after : Sighting
  after = sighting_by galileo (records ++ r ∷ []) settings tag seen

  -- the record at a place is the last
  abbrev pub IsLast : ℕ → NavRecord → Type 0
  IsLast i s = (i ≡ length records) × (s ≡ r)

  pub its_kept : (i : ℕ) (s : NavRecord) → IsItsRecord before i s → IsItsRecord after i s
  its_kept i s p = record { at = get_front records r i s p.at; sat = p.sat }

  pub healthy_kept : (i : ℕ) (s : NavRecord) → IsHealthy before i s → IsHealthy after i s
  healthy_kept i s p = record { its = its_kept i s p.its; healthy = p.healthy }

  pub fresh_kept : (i : ℕ) (s : NavRecord) (age : ℤ) → IsFresh before i s age
      → IsFresh after i s age
  fresh_kept i s age p = record { healthy = healthy_kept i s p.healthy; age_is = p.age_is; fresh = p.fresh }

  pub fit_kept : (i : ℕ) (s : NavRecord) (age : ℤ) → IsFit before i s age → IsFit after i s age
  fit_kept i s age p = record { fresh = fresh_kept i s age p.fresh; inside = p.inside }

  pub its_split : (i : ℕ) (s : NavRecord) → IsItsRecord after i s
      → IsItsRecord before i s ⊎ IsLast i s
  its_split i s p = elim (get_split records r i s p.at) [
    | inl front ↦ inl (record { at = front; sat = p.sat })
    | inr last ↦ inr last
  ]

  pub healthy_split : (i : ℕ) (s : NavRecord) → IsHealthy after i s
      → IsHealthy before i s ⊎ IsLast i s
  healthy_split i s p = elim (its_split i s p.its) [
    | inl front ↦ inl (record { its = front; healthy = p.healthy })
    | inr last ↦ inr last
  ]

  pub fresh_split : (i : ℕ) (s : NavRecord) (age : ℤ) → IsFresh after i s age
      → IsFresh before i s age ⊎ IsLast i s
  fresh_split i s age p = elim (healthy_split i s p.healthy) [
    | inl front ↦ inl (record { healthy = front; age_is = p.age_is; fresh = p.fresh })
    | inr last ↦ inr last
  ]

  pub fit_split : (i : ℕ) (s : NavRecord) (age : ℤ) → IsFit after i s age
      → IsFit before i s age ⊎ IsLast i s
  fit_split i s age p = elim (fresh_split i s age p.fresh) [
    | inl front ↦ inl (record { fresh = front; inside = p.inside })
    | inr last ↦ inr last
  ]

  pub its_last : r.sat ≡ seen.sat → IsItsRecord after (length records) r
  its_last own = record { at = get_last records r; sat = own }

  pub fresh_last : (age : ℤ) → r.sat ≡ seen.sat → IsRecent settings.max_age tag r age
      → IsFresh after (length records) r age
  fresh_last age own p = record { healthy = record { its = its_last own; healthy = p.healthy }; age_is = p.age_is; fresh = p.fresh }

  pub is_recent : (i : ℕ) (s : NavRecord) (age : ℤ) → IsFresh after i s age → s ≡ r
      → IsRecent settings.max_age tag r age
  is_recent i s age p last = subst (λ (q : NavRecord). IsRecent settings.max_age tag q age) last (record { healthy = p.healthy.healthy; age_is = p.age_is; fresh = p.fresh })

-- ---- the nearest

-- it stays so where whatever else meets the fact is farther
pub nearest_kept : (Meets More : ℕ → NavRecord → ℤ → Type 0) (i : ℕ) (r : NavRecord) (age : ℤ)
    → IsNearest Meets i r age → ((j : ℕ) (s : NavRecord) (b : ℤ) → Meets j s b → More j s b)
    → ((j : ℕ) (s : NavRecord) (b : ℤ) → More j s b → Meets j s b ⊎ (age <ℤ b))
    → IsNearest More i r age
nearest_kept Meets More i r age n keep split = record {
  meets = keep i r age n.meets;
  least = λ j s b m. elim (split j s b m) [
    | inl old ↦ n.least j s b old
    | inr less ↦ omega (arith, ints)
  ];
  last = λ j s m. elim (split j s age m) [
    | inl old ↦ n.last j s old
    | inr less ↦ absurd (omega (arith, ints))
  ];
}

-- a last one is the nearest where none is nearer
pub nearest_last : (Meets More : ℕ → NavRecord → ℤ → Type 0) (n : ℕ) (r : NavRecord) (age : ℤ)
    → More n r age → ((j : ℕ) (s : NavRecord) (b : ℤ) → Meets j s b → (age ≤ℤ b) × (j < n))
    → ((j : ℕ) (s : NavRecord) (b : ℤ) → More j s b → Meets j s b ⊎ ((j ≡ n) × (b ≡ age)))
    → IsNearest More n r age
nearest_last Meets More n r age meets farther split = record {
  meets = meets;
  least = λ j s b m. elim (split j s b m) [
    | inl old ↦ (farther j s b old).0
    | inr last ↦ omega (arith, ints, last.1)
  ];
  last = λ j s m. elim (split j s age m) [
    | inl old ↦ omega (arith, (farther j s age old).1)
    | inr last ↦ omega (arith, last.0)
  ];
}
