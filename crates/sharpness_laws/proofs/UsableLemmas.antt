-- The first rows of a block, and those that are renewed, are one for each usable satellite.
use Rattle.std.proofs.Common.{◌≡◌, ℕ, zero, suc, ◌+◌, List, [], ◌∷◌, length, map, inl, inr, refl, sym, ap, subst, ◌∙◌, arith}
use Rattle.std.specs.Prelude.{pos, Bool, true, Some, slice_get}
use Rattle.std.specs.List.{AllByRecursion}
use Rattle.std.proofs.lemmas.List.{length-map}
use Rattle.std.proofs.lemmas.Option.{same_Some}
use Rattle.epoch_rows.specs.Grown.{AreGrownLines}
use Rattle.epoch_rows.specs.Renewed.{IsRenewedRow, maker_of}
use Rattle.epoch_rows.proofs.PlaceLemmas.{each_at}
use Rattle.epoch_selection.specs.Searches.{Search}
use Rattle.gnss_model.specs.Delays.{err_spare_of}
use Rattle.gnss_model.specs.declared.satellites.Sat.{Sat}
use Rattle.grid_model.specs.Boxes.{GridBox}
use Rattle.grid_model.specs.Lengths.{spare_of}
use Rattle.paving.specs.Renewing.{Maker, GivesFrom}
use Rattle.rinex_obs.specs.Facts.{AreDistinct}
use Rattle.rinex_obs.specs.declared.obs.SatObs.{SatObs}
use Rattle.sat_model.specs.Logs.{rows_of}
use Rattle.sat_model.specs.declared.rows.Row.{Row}
use Rattle.sat_model.specs.declared.rows.SatEntry.{SatEntry}
use Rattle.sat_model.specs.declared.rows.SatEntry.TheVariants as entry
use Rattle.sat_rows.specs.Meanings.{Meaning}
use Rattle.sat_rows.specs.OwnRows.{IsOwnRow, AreOwnLines, AreLinesOf}
use Rattle.sat_rows.specs.declared.lines.SatLine.{SatLine}
use Rattle.sat_rows.specs.declared.lines.SatLine.TheVariants.{Usable, Skipped}
use Rattle.sharpness_laws.specs.UsableRows.{IsUnusable, IsRowFor, AreRowsFor, AreRowsOver, AreDistinctIf}

-- ---- satellites of one name

distinct_at : (sats : List SatObs) (j k : ℕ) (seen other : SatObs) → AreDistinct sats
    → slice_get sats j ≡ Some seen → slice_get sats k ≡ Some other → other.sat ≡ seen.sat
    → other ≡ seen
distinct_at [] j k seen other distinct at there same = absurd cc
distinct_at (first ∷ sats) zero zero seen other distinct at there same = same_Some other seen (sym there ∙ at)
distinct_at (first ∷ sats) zero (suc k) seen other distinct at there same =
    absurd (each_at _ sats k other distinct.0 there (same ∙ ap (λ (s : SatObs). s.sat) (sym (same_Some first seen at))))
distinct_at (first ∷ sats) (suc j) zero seen other distinct at there same =
    absurd (each_at _ sats j seen distinct.0 at (sym same ∙ ap (λ (s : SatObs). s.sat) (sym (same_Some first other there))))
distinct_at (first ∷ sats) (suc j) (suc k) seen other distinct at there same = distinct_at sats j k seen other distinct.1 at there same

abbrev names : List Row → List Sat
names rows = map (λ row. row.sat) rows

module _ (m : Meaning) (search : Search) where
  -- ---- the first rows

  unusable_first : (seen : SatObs) (sats : List SatObs) (rows : List Row) → IsUnusable m search seen
      → AreRowsFor m search search.root sats rows
      → AreRowsFor m search search.root (seen ∷ sats) rows
  unusable_first seen sats [] unusable are = (unusable, are)
  unusable_first seen sats (row ∷ rows) unusable are = inl (unusable, are)

  first_for : (sats : List SatObs) (own : List SatLine) (entries : List SatEntry)
      → AreOwnLines m search.root search.epoch.tag sats own
      → AreGrownLines (pos (spare_of search.root)) (pos (err_spare_of search.root m.delays)) own entries
      → AreRowsFor m search search.root sats (rows_of entries)
  first_for [] [] [] are grown = tt
  first_for [] [] (e ∷ entries) are grown = absurd grown
  first_for [] (line ∷ own) entries are grown = absurd are
  first_for (seen ∷ sats) [] entries are grown = absurd are
  first_for (seen ∷ sats) (line ∷ own) [] are grown = absurd grown
  first_for (seen ∷ sats) (Usable o ∷ own) (entry.Skipped sat skip ∷ entries) are grown = absurd grown.0
  first_for (seen ∷ sats) (Skipped sat skip ∷ own) (entry.Row row ∷ entries) are grown = absurd grown.0
  first_for (seen ∷ sats) (Skipped sat skip ∷ own) (entry.Skipped same why ∷ entries) are grown =
      unusable_first seen sats (rows_of entries) (skip, are.0.1) (first_for sats own entries are.1 grown.1)
  first_for (seen ∷ sats) (Usable o ∷ own) (entry.Row row ∷ entries) ((same, usable, is), are) grown =
      inr (record { usable = usable; own = o; sat = same; is_own = is; grown = grown.0 }, first_for sats own entries are grown.1)

  pub first_over : (own : List SatLine) (entries : List SatEntry)
      → AreLinesOf m search.root search.epoch own
      → AreGrownLines (pos (spare_of search.root)) (pos (err_spare_of search.root m.delays)) own entries
      → AreRowsOver m search search.root (rows_of entries)
  first_over own entries are grown = first_for search.epoch.sats.items own entries are grown

  -- ---- renewed rows

  -- the satellite is the one in this place
  renewed_for : (distinct : AreDistinct search.epoch.sats.items) (part : GridBox) (place : ℕ) (seen : SatObs) (first row : Row)
      → slice_get search.epoch.sats.items place ≡ Some seen
      → IsRowFor m search search.root seen first → row.sat ≡ first.sat
      → IsRenewedRow m search part row → IsRowFor m search part seen row
  renewed_for distinct part place seen first row at is same new =
      let name : new.seen.sat ≡ seen.sat = sym (new.grown.sat ∙ new.sat) ∙ same ∙ is.grown.sat ∙ is.sat in
      let one : new.seen ≡ seen = distinct_at search.epoch.sats.items place new.place seen new.seen distinct at new.is_seen name in
      record {
        usable = is.usable;
        own = new.own;
        sat = new.sat ∙ name;
        is_own = subst (λ (s : SatObs). IsOwnRow m part search.epoch.tag s new.own) one new.is_own;
        grown = new.grown;
      }

  -- satellite by satellite, from this place on
  renewed_from : (distinct : AreDistinct search.epoch.sats.items) (part : GridBox) (place : ℕ) (sats : List SatObs) (firsts rows : List Row)
      → ((k : ℕ) → slice_get sats k ≡ slice_get search.epoch.sats.items (place + k))
      → AreRowsFor m search search.root sats firsts → names rows ≡ names firsts
      → AllByRecursion (IsRenewedRow m search part) rows → AreRowsFor m search part sats rows
  renewed_from distinct part place [] [] [] stand are same new = tt
  renewed_from distinct part place [] (first ∷ firsts) rows stand are same new = absurd are
  renewed_from distinct part place sats [] (row ∷ rows) stand are same new = absurd cc
  renewed_from distinct part place sats (first ∷ firsts) [] stand are same new = absurd cc
  renewed_from distinct part place (seen ∷ sats) [] [] stand are same new =
      (are.0, renewed_from distinct part (suc place) sats [] [] (λ k. stand (suc k) ∙ ap (slice_get search.epoch.sats.items) (omega arith)) are.1 same new)
  renewed_from distinct part place (seen ∷ sats) (first ∷ firsts) (row ∷ rows) stand are same new =
      let later : (k : ℕ) → slice_get sats k ≡ slice_get search.epoch.sats.items (suc place + k) = λ k. stand (suc k) ∙ ap (slice_get search.epoch.sats.items) (omega arith) in
      let at : slice_get search.epoch.sats.items place ≡ Some seen = ap (slice_get search.epoch.sats.items) (omega arith) ∙ sym (stand 0) in
      let here : row.sat ≡ first.sat = cc in
      let others : names rows ≡ names firsts = cc in
      elim are [
        | inl (unusable, are) ↦ inl (unusable, renewed_from distinct part (suc place) sats (first ∷ firsts) (row ∷ rows) later are same new)
        | inr (is, are) ↦ inr (
          renewed_for distinct part place seen first row at is here new.0,
          renewed_from distinct part (suc place) sats firsts rows later are others new.1,
        )
      ]

  -- rows that the maker of a block gives, from this place on; its rows have these names
  module _ (renews : Bool) (named : List Sat) where
    abbrev maker : Maker
    maker = maker_of m renews (Some (record { search = search; sats = named }))

    given_new : (part : GridBox) (place : ℕ) (rows : List Row) → GivesFrom maker place part rows
        → AllByRecursion (IsRenewedRow m search part) rows
    given_new part place [] gives = tt
    given_new part place (row ∷ rows) gives = (gives.0.1, given_new part (suc place) rows gives.1)

    given_names : (part : GridBox) (place : ℕ) (left : List Sat) (rows : List Row)
        → ((k : ℕ) → slice_get left k ≡ slice_get named (place + k)) → length rows ≡ length left
        → GivesFrom maker place part rows → names rows ≡ left
    given_names part place [] [] stand many gives = refl
    given_names part place [] (row ∷ rows) stand many gives = absurd (omega (arith, many))
    given_names part place (sat ∷ left) [] stand many gives = absurd (omega (arith, many))
    given_names part place (sat ∷ left) (row ∷ rows) stand many gives =
        let here : row.sat ≡ sat = same_Some row.sat sat (sym gives.0.0 ∙ ap (slice_get named) (omega arith) ∙ sym (stand 0)) in
        let others : names rows ≡ left = given_names part (suc place) left rows (λ k. stand (suc k) ∙ ap (slice_get named) (omega arith)) (omega (arith, many)) gives.1 in
        cc

  pub renewed_over : (renews : Bool) (firsts : List Row)
      → AreDistinctIf renews search.epoch.sats.items → AreRowsOver m search search.root firsts
      → renews ≡ true
      → (part : GridBox) (rows : List Row) → length rows ≡ length firsts
      → GivesFrom (maker renews (names firsts)) 0 part rows → AreRowsOver m search part rows
  renewed_over renews firsts distinct are active part rows many gives =
      renewed_from (distinct active) part 0 search.epoch.sats.items firsts rows (λ k. ap (slice_get search.epoch.sats.items) (omega arith)) are
      (given_names renews (names firsts) part 0 (names firsts) rows (λ k. ap (slice_get (names firsts)) (omega arith)) (many ∙ sym (length-map firsts (λ row. row.sat))) gives)
      (given_new renews (names firsts) part 0 rows gives)
