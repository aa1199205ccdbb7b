-- The satellite lines that are made of own lines.
use Rattle.std.proofs.Common.{◌≡◌, ◌≢◌, ℕ, ◌≤◌, List, [], ◌∷◌, ◌++◌, length, drop, sym, subst, ◌∙◌, refl, append-nil, arith, true}
use Rattle.std.specs.Prelude.{◌*◌, ◌^◌, ℤ, pos}
use Rattle.std.specs.List.{AllByRecursion}
use Rattle.std.proofs.lemmas.Grind.{common_steps}
use Rattle.std.proofs.lemmas.Int.{ints}
use Rattle.epoch_rows.specs.Grown.{IsGrownRow, IsGrownLine, AreGrownLines, greatest_spare, greatest_err_spare, skips_of}
use Rattle.epoch_rows.specs.Ready.{SkipsFit}
use Rattle.log_tokens.specs.Fields.{IsNamed, SkipFits}
use Rattle.log_lines.specs.Rows.{EntryFits}
use Rattle.log_lines.specs.Text.{IsSkipped}
use Rattle.rinex_obs.specs.Facts.{IsSatOf, AreNamedSats, AreDistinct}
use Rattle.rinex_obs.specs.declared.obs.SatObs.{SatObs}
use Rattle.grid_model.specs.Boxes.{GridBox}
use Rattle.sat_model.specs.Logs.{sat_of, rows_of}
use Rattle.sat_model.specs.declared.rows.Row.{Row}
use Rattle.gnss_model.specs.declared.satellites.Sat.{Sat}
use Rattle.sat_model.specs.declared.rows.SatEntry.{SatEntry}
use Rattle.sat_model.specs.declared.rows.SatEntry.TheVariants as entry
use Rattle.grid_model.specs.declared.spans.Span.{Span}
use Rattle.sat_rows.specs.Growth.{GrowsWithin, IsGrown, BoundsGrowWithin, AreBoundsGrown}
use Rattle.sat_rows.specs.Meanings.{Meaning}
use Rattle.sat_rows.specs.OwnRows.{IsOwnLine, AreOwnLines, usable_in, IsSmall, IsSmallRow, IsSmallLine}
use Rattle.sat_rows.specs.declared.lines.SatLine.{SatLine}
use Rattle.sat_rows.specs.declared.lines.SatLine.TheVariants.{Usable, Skipped}
use Rattle.epoch_rows.proofs.ApartLemmas.{NoneNames, AreApart}

-- ---- how many there are

pub usable_le : (own : List SatLine) → usable_in own ≤ length own
usable_le [] = omega arith
usable_le (Usable row ∷ own) = omega (arith, usable_le own)
usable_le (Skipped sat skip ∷ own) = omega (arith, usable_le own)

pub skips_le : (own : List SatLine) → length (skips_of own) ≤ length own
skips_le [] = omega arith
skips_le (Usable row ∷ own) = omega (arith, skips_le own)
skips_le (Skipped sat skip ∷ own) = omega (arith, skips_le own)

module _ (by err_by : ℤ) where
  pub grown_count : (own : List SatLine) (entries : List SatEntry)
      → AreGrownLines by err_by own entries → length entries ≡ length own
  grown_count [] [] grown = refl
  grown_count [] (e ∷ entries) grown = absurd grown
  grown_count (line ∷ own) [] grown = absurd grown
  grown_count (line ∷ own) (e ∷ entries) grown = omega (arith, grown_count own entries grown.1)

  pub grown_rows : (own : List SatLine) (entries : List SatEntry)
      → AreGrownLines by err_by own entries → length (rows_of entries) ≡ usable_in own
  grown_rows [] [] grown = refl
  grown_rows [] (e ∷ entries) grown = absurd grown
  grown_rows (line ∷ own) [] grown = absurd grown
  grown_rows (Usable row ∷ own) (entry.Row wide ∷ entries) grown = omega (arith, grown_rows own entries grown.1)
  grown_rows (Usable row ∷ own) (entry.Skipped sat skip ∷ entries) grown = absurd grown.0
  grown_rows (Skipped sat skip ∷ own) (entry.Row wide ∷ entries) grown = absurd grown.0
  grown_rows (Skipped sat skip ∷ own) (entry.Skipped same why ∷ entries) grown = omega (arith, grown_rows own entries grown.1)

-- ---- one line behind another

-- grown lines of those that are left make them all
abbrev pub GrowOn : ℤ → ℤ → List SatLine → ℕ → List SatEntry → Type 0
GrowOn by err_by lines i entries = (rest : List SatEntry) → AreGrownLines by err_by (drop i lines) rest → AreGrownLines by err_by lines (entries ++ rest)

pub grow_done : (by err_by : ℤ) (lines : List SatLine) (i : ℕ) (entries : List SatEntry)
    → length lines ≤ i → GrowOn by err_by lines i entries → AreGrownLines by err_by lines entries
grow_done by err_by lines i entries ended on =
    let none : drop i lines ≡ [] = grind (arith, common_steps) in
    subst (λ (l : List SatEntry). AreGrownLines by err_by lines l) (append-nil entries) (on [] (rw none tt))

pub all_skipped : (own : List SatLine) → AllByRecursion IsSkipped (skips_of own)
all_skipped [] = tt
all_skipped (Usable row ∷ own) = all_skipped own
all_skipped (Skipped sat skip ∷ own) = (tt, all_skipped own)

-- ---- room at their ends

pub room : (by b : ℤ) (span : Span) → b ≡ by → (n : ℕ) → by ≡ pos n → n ≤ greatest_spare
    → IsSmall (56 * 10 ^ 12) span → GrowsWithin b span
room by b span same n is few small = record {
  low = record { low = omega (arith, ints, small.lo.low); high = omega (arith, ints, small.lo.high) };
  high = record { low = omega (arith, ints, small.hi.low); high = omega (arith, ints, small.hi.high) };
}

pub err_room : (by b : ℤ) (row : Row) → b ≡ by → (n : ℕ) → by ≡ pos n → n ≤ greatest_err_spare
    → IsSmallRow row → BoundsGrowWithin b row
err_room by b row same n is few small = record {
  least_lo = record { low = omega (arith, ints, small.err.lo.low); high = omega (arith, ints, small.err.lo.high) };
  greatest_lo = record { low = omega (arith, ints, small.sure_lo.low); high = omega (arith, ints, small.sure_lo.high) };
  least_hi = record { low = omega (arith, ints, small.sure_hi.low); high = omega (arith, ints, small.sure_hi.high) };
  greatest_hi = record { low = omega (arith, ints, small.err.hi.low); high = omega (arith, ints, small.err.hi.high) };
}

pub is_small : (line : SatLine) (row : Row) → line ≡ Usable row → IsSmallLine line → IsSmallRow row
is_small line row e small = rw e at small

-- the numbers by which a row was grown are these
pub row_grown : (by b err_by err_b : ℤ) (own row : Row) → b ≡ by → err_b ≡ err_by
    → row.sat ≡ own.sat → AreBoundsGrown err_b own row
    → IsGrown b own.x row.x → IsGrown b own.y row.y → IsGrown b own.z row.z
    → IsGrown b own.range row.range → IsGrownRow by err_by own row
row_grown by b err_by err_b own row same err_same sat bounds x y z range =
    record { sat = sat; x = rw same at x; y = rw same at y; z = rw same at z; range = rw same at range; bounds = rw err_same at bounds }

-- ---- the satellites that they name

pub named_fits : (seen : SatObs) (sat : Sat) → IsSatOf true seen → sat ≡ seen.sat → IsNamed sat
named_fits seen sat named same = subst IsNamed (sym same) (named.system, (named.from, named.to))

module _ (m : Meaning) (root : GridBox) (tag : ℤ) where
  pub own_count : (sats : List SatObs) (own : List SatLine) → AreOwnLines m root tag sats own
      → length own ≡ length sats
  own_count [] [] are = refl
  own_count [] (line ∷ own) are = absurd are
  own_count (seen ∷ sats) [] are = absurd are
  own_count (seen ∷ sats) (line ∷ own) are = omega (arith, own_count sats own are.1)

  module _ (skips : SkipsFit m) where
    pub skips_fit : (sats : List SatObs) (own : List SatLine) → AreNamedSats sats
        → AreOwnLines m root tag sats own → AllByRecursion EntryFits (skips_of own)
    skips_fit [] [] named are = tt
    skips_fit [] (line ∷ own) named are = absurd are
    skips_fit (seen ∷ sats) [] named are = absurd are
    skips_fit (seen ∷ sats) (Usable row ∷ own) named are = skips_fit sats own named.1 are.1
    skips_fit (seen ∷ sats) (Skipped sat skip ∷ own) named are = ((named_fits seen sat named.0 are.0.0, skips root tag seen skip are.0.1), skips_fit sats own named.1 are.1)

    line_fits : (by err_by : ℤ) (seen : SatObs) (line : SatLine) (e : SatEntry) → IsSatOf true seen
        → IsOwnLine m root tag seen line → IsGrownLine by err_by line e → EntryFits e
    line_fits by err_by seen (Usable row) (entry.Row wide) named is grown = named_fits seen wide.sat named (grown.sat ∙ is.0)
    line_fits by err_by seen (Usable row) (entry.Skipped sat skip) named is grown = absurd grown
    line_fits by err_by seen (Skipped sat skip) (entry.Row wide) named is grown = absurd grown
    line_fits by err_by seen (Skipped sat skip) (entry.Skipped same why) named is grown = (named_fits seen same named (grown.0 ∙ is.0), subst SkipFits (sym grown.1) (skips root tag seen skip is.1))

    pub lines_fit : (by err_by : ℤ) (sats : List SatObs) (own : List SatLine) (entries : List SatEntry)
        → AreNamedSats sats → AreOwnLines m root tag sats own → AreGrownLines by err_by own entries
        → AllByRecursion EntryFits entries
    lines_fit by err_by [] [] [] named are grown = tt
    lines_fit by err_by [] [] (e ∷ entries) named are grown = absurd grown
    lines_fit by err_by [] (line ∷ own) entries named are grown = absurd are
    lines_fit by err_by (seen ∷ sats) [] entries named are grown = absurd are
    lines_fit by err_by (seen ∷ sats) (line ∷ own) [] named are grown = absurd grown
    lines_fit by err_by (seen ∷ sats) (line ∷ own) (e ∷ entries) named are grown = (line_fits by err_by seen line e named.0 are.0 grown.0, lines_fit by err_by sats own entries named.1 are.1 grown.1)

  -- ---- no satellite is named twice

  abbrev Other : Sat → List SatObs → Type 0
  Other sat sats = AllByRecursion (λ seen. seen.sat ≢ sat) sats

  no_skip_names : (sat : Sat) (sats : List SatObs) (own : List SatLine) → Other sat sats
      → AreOwnLines m root tag sats own → NoneNames sat (skips_of own)
  no_skip_names sat [] [] other are = tt
  no_skip_names sat [] (line ∷ own) other are = absurd are
  no_skip_names sat (seen ∷ sats) [] other are = absurd are
  no_skip_names sat (seen ∷ sats) (Usable row ∷ own) other are = no_skip_names sat sats own other.1 are.1
  no_skip_names sat (seen ∷ sats) (Skipped named skip ∷ own) other are = ((λ same. other.0 (sym are.0.0 ∙ same)), no_skip_names sat sats own other.1 are.1)

  pub skips_apart : (sats : List SatObs) (own : List SatLine) → AreDistinct sats
      → AreOwnLines m root tag sats own → AreApart (skips_of own)
  skips_apart [] [] distinct are = tt
  skips_apart [] (line ∷ own) distinct are = absurd are
  skips_apart (seen ∷ sats) [] distinct are = absurd are
  skips_apart (seen ∷ sats) (Usable row ∷ own) distinct are = skips_apart sats own distinct.1 are.1
  skips_apart (seen ∷ sats) (Skipped sat skip ∷ own) distinct are =
      (no_skip_names sat sats own (subst (λ (s : Sat). Other s sats) (sym are.0.0) distinct.0) are.1, skips_apart sats own distinct.1 are.1)

  pub line_names : (by err_by : ℤ) (seen : SatObs) (line : SatLine) (e : SatEntry)
      → IsOwnLine m root tag seen line → IsGrownLine by err_by line e → sat_of e ≡ seen.sat
  line_names by err_by seen (Usable row) (entry.Row wide) is grown = grown.sat ∙ is.0
  line_names by err_by seen (Usable row) (entry.Skipped sat skip) is grown = absurd grown
  line_names by err_by seen (Skipped sat skip) (entry.Row wide) is grown = absurd grown
  line_names by err_by seen (Skipped sat skip) (entry.Skipped same why) is grown = grown.0 ∙ is.0

  none_names : (by err_by : ℤ) (sat : Sat) (sats : List SatObs) (own : List SatLine) (entries : List SatEntry)
      → Other sat sats → AreOwnLines m root tag sats own → AreGrownLines by err_by own entries
      → NoneNames sat entries
  none_names by err_by sat [] [] [] other are grown = tt
  none_names by err_by sat [] [] (e ∷ entries) other are grown = absurd grown
  none_names by err_by sat [] (line ∷ own) entries other are grown = absurd are
  none_names by err_by sat (seen ∷ sats) [] entries other are grown = absurd are
  none_names by err_by sat (seen ∷ sats) (line ∷ own) [] other are grown = absurd grown
  none_names by err_by sat (seen ∷ sats) (line ∷ own) (e ∷ entries) other are grown =
      ((λ same. other.0 (sym (line_names by err_by seen line e are.0 grown.0) ∙ same)), none_names by err_by sat sats own entries other.1 are.1 grown.1)

  pub lines_apart : (by err_by : ℤ) (sats : List SatObs) (own : List SatLine) (entries : List SatEntry)
      → AreDistinct sats → AreOwnLines m root tag sats own → AreGrownLines by err_by own entries
      → AreApart entries
  lines_apart by err_by [] [] [] distinct are grown = tt
  lines_apart by err_by [] [] (e ∷ entries) distinct are grown = absurd grown
  lines_apart by err_by [] (line ∷ own) entries distinct are grown = absurd are
  lines_apart by err_by (seen ∷ sats) [] entries distinct are grown = absurd are
  lines_apart by err_by (seen ∷ sats) (line ∷ own) [] distinct are grown = absurd grown
  lines_apart by err_by (seen ∷ sats) (line ∷ own) (e ∷ entries) distinct are grown =
      (none_names by err_by (sat_of e) sats own entries (subst (λ (s : Sat). Other s sats) (sym (line_names by err_by seen line e are.0 grown.0)) distinct.0) are.1 grown.1, lines_apart by err_by sats own entries distinct.1 are.1 grown.1)
