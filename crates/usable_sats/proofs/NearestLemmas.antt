-- The nearest fresh record with one more behind: the one so far where the last isn't fresh or is farther, else
-- the last. And the nearest fresh record that is fit is the nearest fit one.
use Rattle.std.proofs.Common.{◌≡◌, ℕ, ◌<◌, ◌∙◌, sym, subst, refl, arith, List, [], length, inl, inr, None, Some, slice_get}
use Rattle.std.specs.Prelude.{Option, ℤ, ◌≤ℤ◌, ◌<ℤ◌}
use Rattle.std.proofs.lemmas.Int.{ints}
use Rattle.std.proofs.lemmas.Option.{none-some, same_Some, slice_get_within}
use Rattle.error_bounds.specs.declared.settings.Settings.{Settings}
use Rattle.gnss_model.specs.declared.elements.Elements.{Elements}
use Rattle.gnss_model.specs.declared.satellites.GalileoUse.{GalileoUse}
use Rattle.rinex_nav.proofs.WeekLemmas.{age_only}
use Rattle.rinex_nav.specs.ElementsOf.{AreElements}
use Rattle.rinex_nav.specs.FieldBounds.{AreInside}
use Rattle.rinex_nav.specs.declared.record.NavRecord.{NavRecord}
use Rattle.rinex_obs.specs.declared.obs.SatObs.{SatObs}
use Rattle.usable_sats.proofs.RecordLemmas.{before, after, fresh_kept, fresh_split, fresh_last, is_recent, nearest_kept, nearest_last}
use Rattle.usable_sats.specs.Answers.{IsNearestFresh, IsRecent, IsUsed}
use Rattle.usable_sats.specs.Usability.{Sighting, sighting_by, IsFresh, IsNearest}
use Rattle.usable_sats.specs.declared.fresh.Nearest.{Nearest}
use Rattle.usable_sats.proofs.WalkLemmas.{PassesOver}

-- ---- one more record

module _ (galileo : Option GalileoUse) (settings : Settings) (tag : ℤ) (seen : SatObs) (records : List NavRecord) (r : NavRecord) where
  -- where the last isn't a fresh one of the satellite nothing changes
  kept : (so_far : Option Nearest)
      → ((i : ℕ) (s : NavRecord) (age : ℤ) → IsFresh (after galileo settings tag seen records r) i s age → s ≡ r → ⊥)
      → IsNearestFresh (before galileo settings tag seen records r) so_far
      → IsNearestFresh (after galileo settings tag seen records r) so_far
  kept None no_last f = λ i s age p. elim (fresh_split galileo settings tag seen records r i s age p) [
    | inl front ↦ f i s age front
    | inr last ↦ no_last i s age p last.1
  ]
  kept (Some n) no_last f = (
    f.0,
    nearest_kept (IsFresh (before galileo settings tag seen records r)) (IsFresh (after galileo settings tag seen records r)) n.place f.0 n.age f.1 (fresh_kept galileo settings tag seen records r)
        (λ i s age p. elim (fresh_split galileo settings tag seen records r i s age p) [
          | inl front ↦ inl front
          | inr last ↦ absurd (no_last i s age p last.1)
        ]),
  )

  passes_over : (so_far : Option Nearest) → (r.sat ≡ seen.sat → ⊥)
      → IsNearestFresh (before galileo settings tag seen records r) so_far
      → IsNearestFresh (after galileo settings tag seen records r) so_far
  passes_over so_far other f = kept so_far (λ i s age p last. other (subst (λ (q : NavRecord). q.sat ≡ seen.sat) last p.healthy.its.sat)) f

  pub none_more : (so_far : Option Nearest)
      → ((age : ℤ) → IsRecent settings.max_age tag r age → ⊥)
      → IsNearestFresh (before galileo settings tag seen records r) so_far
      → IsNearestFresh (after galileo settings tag seen records r) so_far
  none_more so_far old f = kept so_far (λ i s age p last. old age (is_recent galileo settings tag seen records r i s age p last)) f

  -- one that is nearer than the last stays
  pub stays : (n : Nearest) (age : ℤ) → IsRecent settings.max_age tag r age → n.age <ℤ age
      → IsNearestFresh (before galileo settings tag seen records r) (Some n)
      → IsNearestFresh (after galileo settings tag seen records r) (Some n)
  stays n age recent less f = (
    f.0,
    nearest_kept (IsFresh (before galileo settings tag seen records r)) (IsFresh (after galileo settings tag seen records r)) n.place f.0 n.age f.1 (fresh_kept galileo settings tag seen records r)
        (λ i s b p. elim (fresh_split galileo settings tag seen records r i s b p) [
          | inl front ↦ inl front
          | inr last ↦ inr (omega (arith, ints, less, age_only r tag b age (is_recent galileo settings tag seen records r i s b p last.1).age_is recent.age_is))
        ]),
  )

  least : (so_far : Option Nearest) (age : ℤ) → ((n : Nearest) → so_far ≡ Some n → age ≤ℤ n.age)
      → IsNearestFresh (before galileo settings tag seen records r) so_far → (i : ℕ) (s : NavRecord) (b : ℤ)
      → IsFresh (before galileo settings tag seen records r) i s b → age ≤ℤ b
  least None age near f i s b p = absurd (f i s b p)
  least (Some n) age near f i s b p = omega (arith, ints, near n refl, f.1.least i s b p)

  -- else the last counts
  pub yields : (so_far : Option Nearest) (place : ℕ) (age : ℤ) → place ≡ length records → r.sat ≡ seen.sat
      → IsRecent settings.max_age tag r age → ((n : Nearest) → so_far ≡ Some n → age ≤ℤ n.age)
      → IsNearestFresh (before galileo settings tag seen records r) so_far
      → IsNearestFresh (after galileo settings tag seen records r) (Some (record { place = place; age = age }))
  yields so_far place age at own recent near f = (
    r,
    subst (λ (k : ℕ). IsNearest (IsFresh (after galileo settings tag seen records r)) k r age) (sym at)
        (nearest_last (IsFresh (before galileo settings tag seen records r)) (IsFresh (after galileo settings tag seen records r)) (length records) r age (fresh_last galileo settings tag seen records r age own recent)
        (λ i s b p. (least so_far age near f i s b p, slice_get_within records i s p.healthy.its.at))
        (λ i s b p. elim (fresh_split galileo settings tag seen records r i s b p) [
          | inl front ↦ inl front
          | inr last ↦ inr (last.0, age_only r tag b age (is_recent galileo settings tag seen records r i s b p last.1).age_is recent.age_is)
        ])),
  )

-- ---- a walk

-- the nearest of these records
abbrev pub IsFoundIn : Option GalileoUse → Settings → ℤ → SatObs → Option Nearest → List NavRecord → Type 0
IsFoundIn galileo settings tag seen nearest records = IsNearestFresh (sighting_by galileo records settings tag seen) nearest

pub none_found : (galileo : Option GalileoUse) (settings : Settings) (tag : ℤ) (seen : SatObs)
    → IsFoundIn galileo settings tag seen None []
none_found galileo settings tag seen = λ i r age p. none-some r p.healthy.its.at

pub found_over : (galileo : Option GalileoUse) (settings : Settings) (tag : ℤ) (seen : SatObs)
    (nearest : Option Nearest) → PassesOver seen.sat (IsFoundIn galileo settings tag seen nearest)
found_over galileo settings tag seen nearest = λ front r. passes_over galileo settings tag seen front r nearest

-- ---- the nearest of all

pub nearest_within : (a : Sighting) (n : Nearest) → IsNearestFresh a (Some n)
    → n.place < length a.records
nearest_within a n f = slice_get_within a.records n.place f.0 f.1.meets.healthy.its.at

-- the nearest fresh record that is fit is the nearest fit one
pub nearest_fit : (a : Sighting) (n : Nearest) (r : NavRecord) (el : Elements)
    → IsNearestFresh a (Some n) → slice_get a.records n.place ≡ Some r → AreInside r.fields
    → AreElements r el → IsUsed a n.age el
nearest_fit a n r el f at inside elements =
    let same = same_Some f.0 r (sym f.1.meets.healthy.its.at ∙ at) in
    record {
      i = n.place;
      r = f.0;
      nearest = record {
        meets = record { fresh = f.1.meets; inside = subst (λ (q : NavRecord). AreInside q.fields) (sym same) inside };
        least = λ j s age p. f.1.least j s age p.fresh;
        last = λ j s p. f.1.last j s p.fresh;
      };
      elements = subst (λ (q : NavRecord). AreElements q el) (sym same) elements;
    }
