-- The bases of an epoch's usable satellites, in the order of the rows of its block.
use Rattle.std.proofs.Common.{◌≡◌, ℕ, suc, ◌<◌, List, [], ◌∷◌, length, map, refl, sym, subst, ◌∙◌, arith}
use Rattle.std.specs.Prelude.{ℤ, None, Some, get_or, slice_get}
use Rattle.std.proofs.lemmas.List.{length-map}
use Rattle.std.proofs.lemmas.Option.{slice_get_read}
use Rattle.std.specs.List.{AllByRecursion}
use Rattle.epoch_rows.specs.Grown.{AreGrownLines, skips_of}
use Rattle.epoch_rows.specs.Laws.{sat_in_place}
use Rattle.epoch_rows.specs.Renewed.{Hand, GivesRow, IsGrownFrom, IsBaseIn, AreBasesIn, CanFormEach}
use Rattle.epoch_selection.specs.Searches.{Search}
use Rattle.gnss_model.specs.declared.satellites.Sat.{Sat}
use Rattle.grid_model.specs.Boxes.{GridBox}
use Rattle.rinex_obs.specs.declared.obs.SatObs.{SatObs}
use Rattle.sat_model.specs.Logs.{rows_of}
use Rattle.sat_model.specs.declared.rows.Row.{Row}
use Rattle.sat_model.specs.declared.rows.SatEntry.{SatEntry}
use Rattle.sat_model.specs.declared.rows.SatEntry.TheVariants as entry
use Rattle.sat_rows.proofs.PartLemmas.{own_of_base}
use Rattle.sat_rows.specs.Bases.{IsBaseOf, AreBasesOf, CanForm}
use Rattle.sat_rows.specs.Meanings.{Meaning}
use Rattle.sat_rows.specs.OwnRows.{AreOwnLines}
use Rattle.sat_rows.specs.declared.bases.Base.{Base}
use Rattle.sat_rows.specs.declared.lines.SatLine.{SatLine}
use Rattle.sat_rows.specs.declared.lines.SatLine.TheVariants.{Usable, Skipped}
use Rattle.epoch_rows.proofs.PlaceLemmas.{each_at, each_as}

abbrev pub base_sats : List Base → List Sat
base_sats bases = map (λ base. base.sat) bases

abbrev pub row_sats : List SatEntry → List Sat
row_sats entries = map (λ row. row.sat) (rows_of entries)

-- the satellite is one of the list
abbrev IsAmong : List SatObs → SatObs → Type 0
IsAmong sats seen = (place : ℕ) × (slice_get sats place ≡ Some seen)

module _ (m : Meaning) (search : Search) where
  base_in : (seen : SatObs) (base : Base) → IsAmong search.epoch.sats.items seen
      → IsBaseOf m search.root search.epoch.tag seen base → IsBaseIn m search base
  base_in seen base (place, at) is = record { place = place; seen = seen; is_seen = at; is_base = is }

  bases_in : (sats : List SatObs) (own : List SatLine) (bases : List Base)
      → ((seen : SatObs) → IsAmong sats seen → IsAmong search.epoch.sats.items seen)
      → AreBasesOf m search.root search.epoch.tag sats own bases
      → AllByRecursion (IsBaseIn m search) bases
  bases_in [] own bases inside none = rw none tt
  bases_in (seen ∷ sats) [] bases inside are = absurd are
  bases_in (seen ∷ sats) (Usable row ∷ own) bases inside (None, rest, all, has, are) = absurd has
  bases_in (seen ∷ sats) (Usable row ∷ own) bases inside (Some base, rest, all, has, are) =
      rw all (base_in seen base (inside seen (0, refl)) has, bases_in sats own rest (λ other (place, at). inside other (suc place, at)) are)
  bases_in (seen ∷ sats) (Skipped sat skip ∷ own) bases inside (None, rest, all, has, are) =
      rw all (bases_in sats own rest (λ other (place, at). inside other (suc place, at)) are)
  bases_in (seen ∷ sats) (Skipped sat skip ∷ own) bases inside (Some base, rest, all, has, are) = absurd has

  same_sats : (by err_by : ℤ) (sats : List SatObs) (own : List SatLine) (entries : List SatEntry) (bases : List Base)
      → AreOwnLines m search.root search.epoch.tag sats own
      → AreGrownLines by err_by own entries
      → AreBasesOf m search.root search.epoch.tag sats own bases
      → base_sats bases ≡ row_sats entries
  same_sats by err_by [] [] [] bases are grown none = rw none refl
  same_sats by err_by [] [] (e ∷ entries) bases are grown none = absurd grown
  same_sats by err_by [] (line ∷ own) entries bases are grown none = absurd are
  same_sats by err_by (seen ∷ sats) [] entries bases are grown of = absurd are
  same_sats by err_by (seen ∷ sats) (line ∷ own) [] bases are grown of = absurd grown
  same_sats by err_by (seen ∷ sats) (Usable row ∷ own) (entry.Row wide ∷ entries) bases are grown (None, rest, all, has, of) = absurd has
  same_sats by err_by (seen ∷ sats) (Usable row ∷ own) (entry.Row wide ∷ entries) bases are grown (Some base, rest, all, has, of) =
      let here : base.sat ≡ wide.sat = has.sat ∙ sym (grown.0.sat ∙ are.0.0) in
      let later = same_sats by err_by sats own entries rest are.1 grown.1 of in
      rw all cc
  same_sats by err_by (seen ∷ sats) (Usable row ∷ own) (entry.Skipped sat skip ∷ entries) bases are grown of = absurd grown.0
  same_sats by err_by (seen ∷ sats) (Skipped sat skip ∷ own) (entry.Row wide ∷ entries) bases are grown of = absurd grown.0
  same_sats by err_by (seen ∷ sats) (Skipped sat skip ∷ own) (entry.Skipped same why ∷ entries) bases are grown (None, rest, all, has, of) =
      rw all (same_sats by err_by sats own entries rest are.1 grown.1 of)
  same_sats by err_by (seen ∷ sats) (Skipped sat skip ∷ own) (entry.Skipped same why ∷ entries) bases are grown (Some base, rest, all, has, of) = absurd has

  -- the bases that a source gives for an epoch, for the rows of its block
  pub bases_of_rows : (by err_by : ℤ) (own : List SatLine) (entries : List SatEntry) (bases : List Base)
      → AreOwnLines m search.root search.epoch.tag search.epoch.sats.items own
      → AreGrownLines by err_by own entries
      → AreBasesOf m search.root search.epoch.tag search.epoch.sats.items own bases
      → AreBasesIn m (record { search = search; sats = row_sats entries }) bases
  bases_of_rows by err_by own entries bases are grown of = record {
    each = bases_in search.epoch.sats.items own bases (λ seen among. among) of;
    sats = same_sats by err_by search.epoch.sats.items own entries bases are grown of;
  }

  pub can_form : (own : List SatLine) (bases : List Base)
      → AreBasesOf m search.root search.epoch.tag search.epoch.sats.items own bases
      → CanFormEach m.delays search.root bases
  can_form own bases of =
      each_as (IsBaseIn m search) (CanForm m.delays search.root) bases
      (λ base b. record { narrow = b.is_base.narrow; search = b.is_base.search; high = b.is_base.high })
      (bases_in search.epoch.sats.items own bases (λ seen among. among) of)

-- a block of few satellites has no rows
pub no_rows : (own : List SatLine) → rows_of (skips_of own) ≡ []
no_rows [] = refl
no_rows (Usable row ∷ own) = no_rows own
no_rows (Skipped sat skip ∷ own) = no_rows own

pub few_bases : (m : Meaning) (search : Search) (own : List SatLine) (entries : List SatEntry) (bases : List Base)
    → entries ≡ skips_of own → bases ≡ []
    → AreBasesIn m (record { search = search; sats = row_sats entries }) bases
few_bases m search own entries bases skips none = record { each = rw none tt; sats = rw (none, skips, no_rows own) refl }

-- ---- one row

pub base_at : (bases : List Base) (i : ℕ) (base : Base) → i < length (base_sats bases)
    → base ≡ get_or bases i base → slice_get bases i ≡ Some base
base_at bases i base less is = slice_get_read bases (length bases) i base refl (omega (arith, less, length-map bases (λ (b : Base). b.sat))) is

-- what is formed from such a base is a renewed row of its satellite
pub renewed_row : (m : Meaning) (hand : Hand) (bases : List Base) → AreBasesIn m hand bases
    → (i : ℕ) (part : GridBox) (row : Row)
    → IsGrownFrom m.delays hand.search.root bases i part row → GivesRow m (Some hand) i part row
renewed_row m hand bases are i part row g =
    let b = each_at (IsBaseIn m hand.search) bases i g.base are.each g.is_base in (
      subst (λ (sats : List Sat). slice_get sats i ≡ Some row.sat) are.sats (sat_in_place m.delays hand.search.root bases i part row g),
      record {
        lies = g.lies;
        place = b.place;
        seen = b.seen;
        is_seen = b.is_seen;
        usable = b.is_base.usable;
        own = g.own;
        sat = g.sat ∙ b.is_base.sat;
        is_own = own_of_base m hand.search.root hand.search.epoch.tag b.seen g.base part g.own b.is_base g.lies g.of_base;
        grown = g.grown;
      },
    )
