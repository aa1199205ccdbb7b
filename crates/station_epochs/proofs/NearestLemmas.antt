-- The nearest of the epochs is the last that isn't later than a time, or the first that is.
use Rattle.std.proofs.Common.{◌≡◌, refl, sym, ◌∙◌, ap, subst, ℕ, ◌+◌, ◌-◌, ◌/◌, ◌≤◌, ◌<◌, arith, List, Some, None, slice_get, get_or, length, ⊎_elim}
use Rattle.std.specs.Prelude.{ℤ, Option, ◌-ℤ◌, ◌≤ℤ◌, ◌<ℤ◌, unsigned_abs}
use Rattle.std.proofs.Math.Nat.{eq-or-lt_of_le}
use Rattle.std.proofs.lemmas.Bool.{cases_lt}
use Rattle.std.proofs.lemmas.Int.{ints}
use Rattle.std.proofs.lemmas.Option.{same_Some, slice_get_within, slice_get-get_or, slice_get_read}
use Rattle.rinex_obs.specs.declared.obs.ObsEpoch.{ObsEpoch}
use Rattle.rinex_obs.specs.Facts.{AreRising}
use Rattle.station_epochs.specs.Search.{IsSplitAt, IsNearAt, IsLastOf, IsAtPlace, IsNearer}
use Rattle.station_epochs.specs.Stations.{Station, IsInTime, IsStationEpoch}
use Rattle.station_epochs.specs.declared.nearest.Near.{Near}

-- ---- how far two times are apart

-- of two that aren't later the later one is nearer
earlier_apart : (t s u : ℤ) (m n : ℕ) → u ≤ℤ s → s ≤ℤ t → m ≡ unsigned_abs (t -ℤ s)
    → n ≡ unsigned_abs (t -ℤ u) → m ≤ n
earlier_apart t s u m n h k e f = omega (arith, ints)

-- of two that are later the earlier one is
later_apart : (t s u : ℤ) (m n : ℕ) → s <ℤ u → t <ℤ s → m ≡ unsigned_abs (t -ℤ s)
    → n ≡ unsigned_abs (t -ℤ u) → m < n
later_apart t s u m n h k e f = omega (arith, ints)

up_to_itself : (a : ℤ) → a ≤ℤ a
up_to_itself a = omega (arith, ints)

up_to : (a b : ℤ) → a <ℤ b → a ≤ℤ b
up_to a b h = omega (arith, ints)

-- a place before one that is inside is inside
there : (epochs : List ObsEpoch) (i j : ℕ) (f : ObsEpoch) → slice_get epochs j ≡ Some f → i ≤ j
    → (e : ObsEpoch) × (slice_get epochs i ≡ Some e)
there epochs i j f at h = (_, slice_get-get_or epochs i f (omega (arith, slice_get_within epochs j f at)))

-- ---- halving

pub middle_under : (low high : ℕ) → low < high → low + (high - low) / 2 < high
middle_under low high h = omega (arith, h)

module _ (epochs : List ObsEpoch) (tag : ℤ) (middle : ℕ) (m : ObsEpoch) (rising : AreRising epochs)
    (inside : middle < length epochs) (is : m ≡ get_or epochs middle m) where
  middle_at : slice_get epochs middle ≡ Some m
  middle_at = slice_get_read epochs (length epochs) middle m refl inside is

  -- where the middle one isn't later, none up to it is
  pub before_grows : m.tag ≤ℤ tag → (i : ℕ) (e : ObsEpoch) → slice_get epochs i ≡ Some e
      → i < middle + 1 → e.tag ≤ℤ tag
  before_grows h i e at less = ⊎_elim
      (λ (s : i ≡ middle). subst (λ (x : ObsEpoch). x.tag ≤ℤ tag) (same_Some m e (sym middle_at ∙ (ap (slice_get epochs) (sym s) ∙ at))) h)
      (λ (s : i < middle). let up = rising.later i middle e m at middle_at s in omega (arith, ints, up, h))
      (eq-or-lt_of_le {n = i} {m = middle} (omega (arith, less)))

  -- where it is later, all behind it are
  pub behind_grows : tag <ℤ m.tag → (i : ℕ) (e : ObsEpoch) → slice_get epochs i ≡ Some e
      → middle ≤ i → tag <ℤ e.tag
  behind_grows h i e at more = ⊎_elim
      (λ (s : middle ≡ i). subst (λ (x : ObsEpoch). tag <ℤ x.tag) (same_Some m e (sym middle_at ∙ (ap (slice_get epochs) s ∙ at))) h)
      (λ (s : middle < i). let up = rising.later middle i m e middle_at at s in omega (arith, ints, up, h))
      (eq-or-lt_of_le {n = middle} {m = i} more)

-- ---- the two that may be nearest

module _ (station : Station) (tag : ℤ) (count : ℕ) (rising : AreRising station.epochs)
    (split : IsSplitAt station.epochs tag count) where
  -- no epoch that isn't later is nearer than the last of these
  before_most : (i j : ℕ) (e f : ObsEpoch) (apart other : ℕ) → i + 1 ≡ count → j < count
      → slice_get station.epochs i ≡ Some e → apart ≡ unsigned_abs (tag -ℤ e.tag)
      → IsInTime station tag j f other → apart ≤ other
  before_most i j e f apart other last h at is g =
      let from = split.before i e at (omega arith) in
      let up : f.tag ≤ℤ e.tag = ⊎_elim
      (λ (s : j ≡ i). subst (λ (x : ObsEpoch). f.tag ≤ℤ x.tag) (same_Some f e (sym g.at ∙ (ap (slice_get station.epochs) s ∙ at))) (up_to_itself f.tag))
      (λ (s : j < i). up_to f.tag e.tag (rising.later j i f e g.at at s))
      (eq-or-lt_of_le {n = j} {m = i} (omega arith)) in
      earlier_apart tag e.tag f.tag apart other up from is g.apart_is

  -- none that is later is as near as the first of these
  behind_more : (j : ℕ) (e f : ObsEpoch) (apart other : ℕ) → count < j
      → slice_get station.epochs count ≡ Some e → apart ≡ unsigned_abs (tag -ℤ e.tag)
      → IsInTime station tag j f other → apart < other
  behind_more j e f apart other h at is g =
      later_apart tag e.tag f.tag apart other (rising.later count j e f at g.at h)
      (split.behind count e at (omega arith)) is g.apart_is

  early_none : IsLastOf station tag count None → (j : ℕ) (f : ObsEpoch) (other : ℕ) → j < count
      → IsInTime station tag j f other → ⊥
  early_none none j f other h g =
      let i = count - 1 in
      let at = slice_get-get_or station.epochs i f (omega (arith, split.within, h)) in
      let e = get_or station.epochs i f in
      let apart = unsigned_abs (tag -ℤ e.tag) in
      let most = before_most i j e f apart other (omega (arith, h)) h at refl g in
      none i e apart (omega (arith, h)) (record { at = at; apart_is = refl; near = omega (arith, most, g.near) })

  late_none : IsAtPlace station tag count None → (j : ℕ) (f : ObsEpoch) (other : ℕ) → count ≤ j
      → IsInTime station tag j f other → ⊥
  late_none none j f other h g = ⊎_elim
      (λ (s : count ≡ j). none f other (subst (λ (k : ℕ). IsInTime station tag k f other) (sym s) g))
      (λ (s : count < j).
      let (e, at) = there station.epochs count j f g.at h in
      let apart = unsigned_abs (tag -ℤ e.tag) in
      let more = behind_more j e f apart other s at refl g in
      none e apart (record { at = at; apart_is = refl; near = omega (arith, more, g.near) }))
      (eq-or-lt_of_le {n = count} {m = j} h)

  early_least : (n : Near) → IsNearAt station tag n → n.place + 1 ≡ count → (j : ℕ) (f : ObsEpoch)
      (other : ℕ) → j < count → IsInTime station tag j f other → n.apart ≤ other
  early_least n is last j f other h g =
      before_most n.place j is.0 f n.apart other last h is.1.at is.1.apart_is g

  late_at : (n : Near) → IsNearAt station tag n → n.place ≡ count
      → (e : ObsEpoch) × IsInTime station tag count e n.apart
  late_at n is place = (is.0, subst (λ (k : ℕ). IsInTime station tag k is.0 n.apart) place is.1)

  late_least : (n : Near) → IsNearAt station tag n → n.place ≡ count → (j : ℕ) (f : ObsEpoch)
      (other : ℕ) → count ≤ j → IsInTime station tag j f other → n.apart ≤ other
  late_least n is place j f other h g =
      let (e, here) = late_at n is place in ⊎_elim
      (λ (s : count ≡ j).
      let same = same_Some e f (sym here.at ∙ (ap (slice_get station.epochs) s ∙ g.at)) in
      let other_is = subst (λ (x : ObsEpoch). other ≡ unsigned_abs (tag -ℤ x.tag)) (sym same) g.apart_is in
      omega (arith, here.apart_is, other_is))
      (λ (s : count < j). let more = behind_more j e f n.apart other s here.at here.apart_is g in omega (arith, more))
      (eq-or-lt_of_le {n = count} {m = j} h)

  late_last : (n : Near) → IsNearAt station tag n → n.place ≡ count → (j : ℕ) (f : ObsEpoch)
      → IsInTime station tag j f n.apart → j ≤ count
  late_last n is place j f g =
      let (e, here) = late_at n is place in ⊎_elim
      (λ (s : count < j). let more = behind_more j e f n.apart n.apart s here.at here.apart_is g in absurd (omega (arith, more)))
      (λ (s : j ≤ count). s)
      (cases_lt count j)

  -- ---- which of the two it is

  -- what a place answers, or none
  abbrev pub IsAnswer : Option Near → Type 0
  IsAnswer None = (e : ObsEpoch) → IsStationEpoch station tag e → ⊥
  IsAnswer (Some n) =
      (e : ObsEpoch) × IsStationEpoch station tag e × (slice_get station.epochs n.place ≡ Some e)

  early_wins : (n : Near) → IsNearAt station tag n → n.place + 1 ≡ count
      → ((j : ℕ) (f : ObsEpoch) (other : ℕ) → count ≤ j → IsInTime station tag j f other → n.apart < other)
      → IsAnswer (Some n)
  early_wins n is last others = (
    is.0,
    record {
      i = n.place;
      apart = n.apart;
      in_time = is.1;
      least = λ j f other g. ⊎_elim
          (λ (s : j < count). early_least n is last j f other s g)
          (λ (s : count ≤ j). let more = others j f other s g in omega (arith, more))
          (cases_lt j count);
      last = λ j f g. ⊎_elim
          (λ (s : j < count). omega (arith, s, last))
          (λ (s : count ≤ j). let more = others j f n.apart s g in absurd (omega (arith, more)))
          (cases_lt j count);
    },
    is.1.at,
  )

  late_wins : (n : Near) → IsNearAt station tag n → n.place ≡ count
      → ((j : ℕ) (f : ObsEpoch) (other : ℕ) → j < count → IsInTime station tag j f other → n.apart ≤ other)
      → IsAnswer (Some n)
  late_wins n is place others = (
    is.0,
    record {
      i = n.place;
      apart = n.apart;
      in_time = is.1;
      least = λ j f other g. ⊎_elim
          (λ (s : j < count). others j f other s g)
          (λ (s : count ≤ j). late_least n is place j f other s g)
          (cases_lt j count);
      last = λ j f g. let most = late_last n is place j f g in omega (arith, most, place);
    },
    is.1.at,
  )

  pub nearest_is : (early late near : Option Near) → IsLastOf station tag count early
      → IsAtPlace station tag count late → IsNearer early late near → IsAnswer near
  nearest_is None None near a b is = subst IsAnswer (sym is) (λ e s. ⊎_elim
      (λ (h : s.i < count). early_none a s.i e s.apart h s.in_time)
      (λ (h : count ≤ s.i). late_none b s.i e s.apart h s.in_time)
      (cases_lt s.i count))
  nearest_is None (Some l) near a b is = subst IsAnswer (sym is)
      (late_wins l b.0 b.1 (λ j f other h g. absurd (early_none a j f other h g)))
  nearest_is (Some e) None near a b is = subst IsAnswer (sym is)
      (early_wins e a.0 a.1 (λ j f other h g. absurd (late_none b j f other h g)))
  nearest_is (Some e) (Some l) None a b is = absurd is
  nearest_is (Some e) (Some l) (Some n) a b is = ⊎_elim
      (λ (s : e.apart < l.apart). subst (λ (x : Near). IsAnswer (Some x)) (sym (is.first s))
      (early_wins e a.0 a.1 (λ j f other h g. let least = late_least l b.0 b.1 j f other h g in omega (arith, s, least))))
      (λ (s : l.apart ≤ e.apart). subst (λ (x : Near). IsAnswer (Some x)) (sym (is.second s))
      (late_wins l b.0 b.1 (λ j f other h g. let least = early_least e a.0 a.1 j f other h g in omega (arith, s, least))))
      (cases_lt e.apart l.apart)

-- the last of so many is that at the place before
pub last_by : (station : Station) (tag : ℤ) (count place : ℕ) (near : Option Near) → place + 1 ≡ count
    → IsAtPlace station tag place near → IsLastOf station tag count near
last_by station tag count place None is none =
    λ i e apart last g. none e apart (subst (λ (k : ℕ). IsInTime station tag k e apart) (omega (arith, is, last)) g)
last_by station tag count place (Some n) is at = (at.0, omega (arith, is, at.1))
