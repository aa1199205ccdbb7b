-- What the records give of a satellite with one more: what they gave before where that is better, else what
-- the last gives alone.
use Rattle.std.proofs.Common.{◌≡◌, ℕ, ◌<◌, ◌≤◌, arith, sym, subst, true, List, [], length, refl, inl, inr}
use Rattle.std.specs.Prelude.{Option, ℤ, pos, ◌≤ℤ◌, ◌<ℤ◌}
use Rattle.std.proofs.lemmas.Int.{ints, by_lt_z}
use Rattle.std.proofs.lemmas.Option.{none-some, slice_get_within}
use Rattle.error_bounds.specs.declared.settings.Settings.{Settings}
use Rattle.gnss_model.specs.declared.satellites.GalileoUse.{GalileoUse}
use Rattle.exact_decimal.specs.declared.decimal.Decimal.{Decimal}
use Rattle.rinex_nav.proofs.WeekLemmas.{age_only}
use Rattle.rinex_nav.specs.FieldBounds.{AreInside, IsFirstOutside}
use Rattle.rinex_nav.specs.declared.record.NavRecord.{NavRecord}
use Rattle.rinex_obs.specs.declared.obs.SatObs.{SatObs}
use Rattle.gnss_model.specs.declared.elements.Elements.{Elements}
use Rattle.usable_sats.proofs.RecordLemmas.{before, after, its_kept, healthy_kept, fresh_kept, fit_kept, its_split, healthy_split, fresh_split, fit_split, its_last, fresh_last, is_recent, nearest_kept, nearest_last}
use Rattle.usable_sats.specs.Answers.{IsChoice, IsRecent, IsAlone, passed_by, age_of, IsBetter}
use Rattle.usable_sats.specs.Usability.{Sighting, sighting_by, IsItsRecord, IsHealthy, IsFresh, IsFit}
use Rattle.usable_sats.specs.declared.choice.Choice.{Choice}
use Rattle.usable_sats.specs.declared.choice.Choice.TheVariants.{NoRecord, Unhealthy, Old, Unfit, Fit}
use Rattle.usable_sats.proofs.WalkLemmas.{PassesOver}
use Rattle.std.proofs.lemmas.Bool.{both_ways as true_false}

-- ---- what one record gives

pub not_both : (fields : List Decimal) (k : ℕ) → AreInside fields → IsFirstOutside fields k → ⊥
not_both fields k inside first = first.outside (inside k first.from (omega (arith, first.to)))

module _ (max_age : ℕ) (tag : ℤ) (r : NavRecord) where
  some_passed : (t : Choice) → IsAlone max_age tag r t → 1 ≤ passed_by t
  some_passed NoRecord g = absurd g
  some_passed Unhealthy g = omega arith
  some_passed Old g = omega arith
  some_passed (Unfit age field) g = omega arith
  some_passed (Fit age el) g = omega arith

  old : (t : Choice) → IsAlone max_age tag r t → passed_by t ≤ 2 → (age : ℤ)
      → IsRecent max_age tag r age → ⊥
  old NoRecord g few age recent = g
  old Unhealthy g few age recent = true_false r.healthy g recent.healthy
  old Old g few age recent = g.1 age recent
  old (Unfit own field) g few age recent = absurd (omega arith)
  old (Fit own el) g few age recent = absurd (omega arith)

  unfit : (t : Choice) → IsAlone max_age tag r t → passed_by t ≤ 3 → (age : ℤ)
      → IsRecent max_age tag r age → AreInside r.fields → ⊥
  unfit (Unfit own field) g few age recent inside = not_both r.fields field inside g.1
  unfit (Fit own el) g few age recent inside = absurd (omega arith)
  unfit NoRecord g few age recent inside = g
  unfit Unhealthy g few age recent inside = true_false r.healthy g recent.healthy
  unfit Old g few age recent inside = g.1 age recent

  aged : (t : Choice) → IsAlone max_age tag r t → 3 ≤ passed_by t
      → IsRecent max_age tag r (age_of t)
  aged NoRecord g many = absurd (omega arith)
  aged Unhealthy g many = absurd (omega arith)
  aged Old g many = absurd (omega arith)
  aged (Unfit own field) g many = g.0
  aged (Fit own el) g many = g.0

  one_age : (t : Choice) → IsAlone max_age tag r t → 3 ≤ passed_by t → (age : ℤ)
      → IsRecent max_age tag r age → age ≡ age_of t
  one_age t g many age recent = age_only r tag age (age_of t) recent.age_is (aged t g many).age_is

no_age : (t : Choice) → passed_by t ≤ 2 → age_of t ≡ pos 0
no_age NoRecord few = omega (arith, ints)
no_age Unhealthy few = omega (arith, ints)
no_age Old few = omega (arith, ints)
no_age (Unfit age field) few = absurd (omega arith)
no_age (Fit age el) few = absurd (omega arith)

-- ---- what the records before give

module _ (a : Sighting) where
  none_healthy : (s : Choice) → IsChoice a s → passed_by s ≤ 1 → (i : ℕ) (r : NavRecord)
      → IsHealthy a i r → ⊥
  none_healthy NoRecord f few i r p = f i r p.its
  none_healthy Unhealthy f few i r p = f.1 i r p
  none_healthy Old f few i r p = absurd (omega arith)
  none_healthy (Unfit age field) f few i r p = absurd (omega arith)
  none_healthy (Fit age el) f few i r p = absurd (omega arith)

  none_fresh : (s : Choice) → IsChoice a s → passed_by s ≤ 2 → (i : ℕ) (r : NavRecord) (age : ℤ)
      → IsFresh a i r age → ⊥
  none_fresh NoRecord f few i r age p = f i r p.healthy.its
  none_fresh Unhealthy f few i r age p = f.1 i r p.healthy
  none_fresh Old f few i r age p = f.1 i r age p
  none_fresh (Unfit own field) f few i r age p = absurd (omega arith)
  none_fresh (Fit own el) f few i r age p = absurd (omega arith)

  none_fit : (s : Choice) → IsChoice a s → passed_by s ≤ 3 → (i : ℕ) (r : NavRecord) (age : ℤ)
      → IsFit a i r age → ⊥
  none_fit NoRecord f few i r age p = f i r p.fresh.healthy.its
  none_fit Unhealthy f few i r age p = f.1 i r p.fresh.healthy
  none_fit Old f few i r age p = f.1 i r age p.fresh
  none_fit (Unfit own field) f few i r age p = f.none i r age p
  none_fit (Fit own el) f few i r age p = absurd (omega arith)

  least_fresh : (s : Choice) → IsChoice a s → passed_by s ≤ 3 → (least : ℤ)
      → (passed_by s ≡ 3 → least ≤ℤ age_of s) → (i : ℕ) (r : NavRecord) (age : ℤ)
      → IsFresh a i r age → least ≤ℤ age
  least_fresh NoRecord f few least at i r age p = absurd (none_fresh NoRecord f (omega arith) i r age p)
  least_fresh Unhealthy f few least at i r age p = absurd (none_fresh Unhealthy f (omega arith) i r age p)
  least_fresh Old f few least at i r age p = absurd (none_fresh Old f (omega arith) i r age p)
  least_fresh (Unfit own field) f few least at i r age p = omega (arith, ints, f.nearest.least i r age p, at refl)
  least_fresh (Fit own el) f few least at i r age p = absurd (omega arith)

  least_fit : (s : Choice) → IsChoice a s → (least : ℤ) → (passed_by s ≡ 4 → least ≤ℤ age_of s)
      → (i : ℕ) (r : NavRecord) (age : ℤ) → IsFit a i r age → least ≤ℤ age
  least_fit NoRecord f least at i r age p = absurd (none_fit NoRecord f (omega arith) i r age p)
  least_fit Unhealthy f least at i r age p = absurd (none_fit Unhealthy f (omega arith) i r age p)
  least_fit Old f least at i r age p = absurd (none_fit Old f (omega arith) i r age p)
  least_fit (Unfit own field) f least at i r age p = absurd (none_fit (Unfit own field) f (omega arith) i r age p)
  least_fit (Fit own el) f least at i r age p = omega (arith, ints, f.nearest.least i r age p, at refl)

-- ---- one more record

module _ (galileo : Option GalileoUse) (settings : Settings) (tag : ℤ) (seen : SatObs) (records : List NavRecord) (r : NavRecord) where
  farther : (age : ℤ) (field : ℕ) (t : Choice) → IsAlone settings.max_age tag r t
      → IsBetter (Unfit age field) t → (b : ℤ) → IsRecent settings.max_age tag r b → age <ℤ b
  farther age field t g (inl less) b recent = absurd (old settings.max_age tag r t g (omega arith) b recent)
  farther age field t g (inr same) b recent = omega (arith, ints, same.1, one_age settings.max_age tag r t g (omega (arith, same.0)) b recent)

  farther_fit : (age : ℤ) (el : Elements) (t : Choice) → IsAlone settings.max_age tag r t
      → IsBetter (Fit age el) t → (b : ℤ) → IsRecent settings.max_age tag r b → AreInside r.fields
      → age <ℤ b
  farther_fit age el t g (inl less) b recent inside = absurd (unfit settings.max_age tag r t g (omega arith) b recent inside)
  farther_fit age el t g (inr same) b recent inside = omega (arith, ints, same.1, one_age settings.max_age tag r t g (omega (arith, same.0)) b recent)

  -- a better choice stays
  pub stays : (s t : Choice) → IsChoice (before galileo settings tag seen records r) s
      → IsAlone settings.max_age tag r t → IsBetter s t
      → IsChoice (after galileo settings tag seen records r) s
  stays NoRecord t f g (inl less) = absurd (omega arith)
  stays NoRecord t f g (inr same) = absurd (omega (arith, some_passed settings.max_age tag r t g, same.0))
  stays Unhealthy t f g (inl less) = absurd (omega (arith, some_passed settings.max_age tag r t g))
  stays Unhealthy t f g (inr same) = absurd (omega (arith, ints, no_age t (omega (arith, same.0)), same.1))
  stays Old t f g (inl less) = (
    (f.0.0, f.0.1, healthy_kept galileo settings tag seen records r f.0.0 f.0.1 f.0.2),
    λ i q age p. elim (fresh_split galileo settings tag seen records r i q age p) [
      | inl front ↦ f.1 i q age front
      | inr last ↦ old settings.max_age tag r t g (omega arith) age (is_recent galileo settings tag seen records r i q age p last.1)
    ],
  )
  stays Old t f g (inr same) = absurd (omega (arith, ints, no_age t (omega (arith, same.0)), same.1))
  stays (Unfit age field) t f g better = record {
    none = λ i q b p. elim (fit_split galileo settings tag seen records r i q b p) [
      | inl front ↦ f.none i q b front
      | inr last ↦ unfit settings.max_age tag r t g (omega (arith, better)) b (is_recent galileo settings tag seen records r i q b p.fresh last.1) (subst (λ (s : NavRecord). AreInside s.fields) last.1 p.inside)
    ];
    i = f.i;
    r = f.r;
    nearest = nearest_kept (IsFresh (before galileo settings tag seen records r)) (IsFresh (after galileo settings tag seen records r)) f.i f.r age f.nearest (fresh_kept galileo settings tag seen records r)
        (λ i q b p. elim (fresh_split galileo settings tag seen records r i q b p) [
          | inl front ↦ inl front
          | inr last ↦ inr (farther age field t g better b (is_recent galileo settings tag seen records r i q b p last.1))
        ]);
    first = f.first;
  }
  stays (Fit age el) t f g better = record {
    i = f.i;
    r = f.r;
    nearest = nearest_kept (IsFit (before galileo settings tag seen records r)) (IsFit (after galileo settings tag seen records r)) f.i f.r age f.nearest (fit_kept galileo settings tag seen records r)
        (λ i q b p. elim (fit_split galileo settings tag seen records r i q b p) [
          | inl front ↦ inl front
          | inr last ↦ inr (farther_fit age el t g better b (is_recent galileo settings tag seen records r i q b p.fresh last.1) (subst (λ (s : NavRecord). AreInside s.fields) last.1 p.inside))
        ]);
    elements = f.elements;
  }

  no_more : (s t : Choice) → (IsBetter s t → ⊥) → passed_by s ≤ passed_by t
  no_more s t worse =
      let no : passed_by t < passed_by s → ⊥ = λ h. worse (inl h) in
      omega (arith, no)

  no_farther : (s t : Choice) → (IsBetter s t → ⊥) → passed_by s ≡ passed_by t
      → age_of t ≤ℤ age_of s
  no_farther s t worse same = by_lt_z (age_of s) (age_of t) (λ (less : age_of s <ℤ age_of t). absurd (worse (inr (sym same, less)))) (λ not. not)

  -- else the last counts
  pub yields : (s t : Choice) → r.sat ≡ seen.sat
      → IsChoice (before galileo settings tag seen records r) s → IsAlone settings.max_age tag r t
      → (IsBetter s t → ⊥) → IsChoice (after galileo settings tag seen records r) t
  yields s NoRecord own f g worse = absurd g
  yields s Unhealthy own f g worse = (
    (length records, r, its_last galileo settings tag seen records r own),
    λ i q p. elim (healthy_split galileo settings tag seen records r i q p) [
      | inl front ↦ none_healthy (before galileo settings tag seen records r) s f (no_more s Unhealthy worse) i q front
      | inr last ↦ true_false r.healthy g (subst (λ (s : NavRecord). s.healthy ≡ true) last.1 p.healthy)
    ],
  )
  yields s Old own f g worse = (
    (length records, r, record { its = its_last galileo settings tag seen records r own; healthy = g.0 }),
    λ i q age p. elim (fresh_split galileo settings tag seen records r i q age p) [
      | inl front ↦ none_fresh (before galileo settings tag seen records r) s f (no_more s Old worse) i q age front
      | inr last ↦ g.1 age (is_recent galileo settings tag seen records r i q age p last.1)
    ],
  )
  yields s (Unfit age field) own f g worse = record {
    none = λ i q b p. elim (fit_split galileo settings tag seen records r i q b p) [
      | inl front ↦ none_fit (before galileo settings tag seen records r) s f (no_more s (Unfit age field) worse) i q b front
      | inr last ↦ not_both r.fields field (subst (λ (s : NavRecord). AreInside s.fields) last.1 p.inside) g.1
    ];
    i = length records;
    r = r;
    nearest = nearest_last (IsFresh (before galileo settings tag seen records r)) (IsFresh (after galileo settings tag seen records r)) (length records) r age (fresh_last galileo settings tag seen records r age own g.0)
        (λ j q b p. (least_fresh (before galileo settings tag seen records r) s f (no_more s (Unfit age field) worse) age (no_farther s (Unfit age field) worse) j q b p, slice_get_within records j q p.healthy.its.at))
        (λ j q b p. elim (fresh_split galileo settings tag seen records r j q b p) [
          | inl front ↦ inl front
          | inr last ↦ inr (last.0, age_only r tag b age (is_recent galileo settings tag seen records r j q b p last.1).age_is g.0.age_is)
        ]);
    first = g.1;
  }
  yields s (Fit age el) own f g worse = record {
    i = length records;
    r = r;
    nearest = nearest_last (IsFit (before galileo settings tag seen records r)) (IsFit (after galileo settings tag seen records r)) (length records) r age (record { fresh = fresh_last galileo settings tag seen records r age own g.0; inside = g.1 })
        (λ j q b p. (least_fit (before galileo settings tag seen records r) s f age (no_farther s (Fit age el) worse) j q b p, slice_get_within records j q p.fresh.healthy.its.at))
        (λ j q b p. elim (fit_split galileo settings tag seen records r j q b p) [
          | inl front ↦ inl front
          | inr last ↦ inr (last.0, age_only r tag b age (is_recent galileo settings tag seen records r j q b p.fresh last.1).age_is g.0.age_is)
        ]);
    elements = g.2;
  }

  no_last : (r.sat ≡ seen.sat → ⊥) → (i : ℕ) (s : NavRecord)
      → IsItsRecord (after galileo settings tag seen records r) i s → s ≡ r → ⊥
  no_last other i s p last = other (subst (λ (q : NavRecord). q.sat ≡ seen.sat) last p.sat)

  -- a record of another satellite changes nothing
  passes_over : (s : Choice) → (r.sat ≡ seen.sat → ⊥)
      → IsChoice (before galileo settings tag seen records r) s
      → IsChoice (after galileo settings tag seen records r) s
  passes_over NoRecord other f = λ i q p. elim (its_split galileo settings tag seen records r i q p) [
    | inl front ↦ f i q front
    | inr last ↦ no_last other i q p last.1
  ]
  passes_over Unhealthy other f = (
    (f.0.0, f.0.1, its_kept galileo settings tag seen records r f.0.0 f.0.1 f.0.2),
    λ i q p. elim (healthy_split galileo settings tag seen records r i q p) [
      | inl front ↦ f.1 i q front
      | inr last ↦ no_last other i q p.its last.1
    ],
  )
  passes_over Old other f = (
    (f.0.0, f.0.1, healthy_kept galileo settings tag seen records r f.0.0 f.0.1 f.0.2),
    λ i q age p. elim (fresh_split galileo settings tag seen records r i q age p) [
      | inl front ↦ f.1 i q age front
      | inr last ↦ no_last other i q p.healthy.its last.1
    ],
  )
  passes_over (Unfit age field) other f = record {
    none = λ i q b p. elim (fit_split galileo settings tag seen records r i q b p) [
      | inl front ↦ f.none i q b front
      | inr last ↦ no_last other i q p.fresh.healthy.its last.1
    ];
    i = f.i;
    r = f.r;
    nearest = nearest_kept (IsFresh (before galileo settings tag seen records r)) (IsFresh (after galileo settings tag seen records r)) f.i f.r age f.nearest (fresh_kept galileo settings tag seen records r)
        (λ i q b p. elim (fresh_split galileo settings tag seen records r i q b p) [
          | inl front ↦ inl front
          | inr last ↦ absurd (no_last other i q p.healthy.its last.1)
        ]);
    first = f.first;
  }
  passes_over (Fit age el) other f = record {
    i = f.i;
    r = f.r;
    nearest = nearest_kept (IsFit (before galileo settings tag seen records r)) (IsFit (after galileo settings tag seen records r)) f.i f.r age f.nearest (fit_kept galileo settings tag seen records r)
        (λ i q b p. elim (fit_split galileo settings tag seen records r i q b p) [
          | inl front ↦ inl front
          | inr last ↦ absurd (no_last other i q p.fresh.healthy.its last.1)
        ]);
    elements = f.elements;
  }

-- ---- a walk

-- what these records give
abbrev pub IsChosen : Option GalileoUse → Settings → ℤ → SatObs → Choice → List NavRecord → Type 0
IsChosen galileo settings tag seen choice records = IsChoice (sighting_by galileo records settings tag seen) choice

pub none_chosen : (galileo : Option GalileoUse) (settings : Settings) (tag : ℤ) (seen : SatObs)
    → IsChosen galileo settings tag seen NoRecord []
none_chosen galileo settings tag seen = λ i r p. none-some r p.at

pub chosen_over : (galileo : Option GalileoUse) (settings : Settings) (tag : ℤ) (seen : SatObs)
    (choice : Choice) → PassesOver seen.sat (IsChosen galileo settings tag seen choice)
chosen_over galileo settings tag seen choice = λ front r. passes_over galileo settings tag seen front r choice
