-- Two own lines of a satellite: a grown one holds the other.
use Rattle.std.proofs.Common.{◌≡◌, ℕ, Bool, List, [], ◌∷◌, map, true, false, refl, sym, subst, ◌∙◌, ◌+◌, ◌&&◌, arith}
use Rattle.std.specs.Prelude.{ℤ, pos, ◌+ℤ◌, ◌-ℤ◌, ◌≤ℤ◌, Option, None, Some, is_none}
use Rattle.std.proofs.lemmas.Int.{ints}
use Rattle.epoch_rows.specs.Grown.{IsGrownRow, IsGrownLine, AreGrownLines, skips_of}
use Rattle.paving_log_check.specs.Lines.{skipped_in, IsSameLine, HoldsSide, bounds_unless, bounds_compared, HoldEach, HasBoundIf, HoldsOwn, HasBound, RowPasses}
use Rattle.paving_log_check.specs.OwnLines.{usable_of}
use Rattle.rinex_obs.specs.declared.obs.SatObs.{SatObs}
use Rattle.grid_model.specs.Boxes.{Side, GridBox, box_holds, span_side}
use Rattle.sat_model.specs.Fitting.{low_bounds, high_bounds}
use Rattle.grid_model.specs.Intervals.{Between}
use Rattle.grid_model.specs.Lengths.{spare_of}
use Rattle.sat_model.specs.Logs.{sat_of, rows_of}
use Rattle.sat_model.specs.Relaxed.{ends}
use Rattle.grid_model.specs.SearchBoxes.{IsSearchBox}
use Rattle.gnss_model.specs.Delays.{is_plain, delay_spare, err_spare_of}
use Rattle.grid_model.specs.declared.boxes.Pos.{Pos}
use Rattle.sat_model.specs.declared.rows.Row.{Row}
use Rattle.sat_model.specs.declared.rows.SatEntry.{SatEntry}
use Rattle.sat_model.specs.declared.rows.SatEntry.TheVariants as entry
use Rattle.gnss_model.specs.declared.satellites.Skip.{Skip}
use Rattle.gnss_model.specs.declared.delays.Delays.{Delays}
use Rattle.gnss_model.specs.declared.delays.Layer.TheVariants.{Troposphere, Ionosphere}
use Rattle.grid_model.specs.declared.spans.Span.{Span}
use Rattle.sat_rows.specs.Chains.{Chain}
use Rattle.sat_rows.specs.Growth.{IsGrown, AreBoundsGrown}
use Rattle.sat_rows.specs.Meanings.{Meaning, IsSound}
use Rattle.sat_rows.specs.OwnRows.{HoldsChain, IsTight, AreBoundsTight, HasBounds, IsOwnRow, IsOwnLine, AreOwnLines, usable_in}
use Rattle.sat_rows.specs.declared.lines.SatLine.{SatLine}
use Rattle.sat_rows.specs.declared.lines.SatLine.TheVariants.{Usable, Skipped}
use Rattle.error_bounds.proofs.FormLemmas.{same_pair}
use Rattle.epoch_rows.proofs.LineLemmas.{line_names}
use Rattle.paving_log_check.proofs.FitLemmas.{same_first as first_is, same_second as second_is}

-- a side with so much more at both ends holds another that is at most so wide, where both hold one number
holds_side : (spare : ℕ) (own wide other : Side) (n : ℤ) → wide.lo ≡ own.lo -ℤ pos spare
    → wide.hi ≡ own.hi +ℤ pos spare → Between own.lo own.hi n → Between other.lo other.hi n
    → (other.hi -ℤ other.lo) ≤ℤ pos spare → HoldsSide wide other
holds_side spare own wide other n low high here there tight = record {
  lo = omega (arith, ints, low, here.from, there.to, tight);
  hi = omega (arith, ints, high, here.to, there.from, tight);
}

holds_span : (root : GridBox) (own wide other : Span) (n : ℤ)
    → IsGrown (pos (spare_of root)) own wide → Between own.lo own.hi n → Between other.lo other.hi n
    → IsTight root other
    → HoldsSide (span_side wide) (span_side other)
holds_span root own wide other n grown here there tight =
    holds_side (spare_of root) (span_side own) (span_side wide) (span_side other) n grown.low grown.high here there tight

holds_each : (delays : Delays) (row ours : Row) → HoldsSide (span_side row.x) (span_side ours.x)
    → HoldsSide (span_side row.y) (span_side ours.y)
    → HoldsSide (span_side row.z) (span_side ours.z)
    → HoldsSide (span_side row.range) (span_side ours.range)
    → HoldEach (bounds_compared delays row ours) → HoldsOwn delays row ours
holds_each delays row ours x y z range bounds = (x, (y, (z, (range, bounds))))

-- ---- the ends of the error

-- where nothing is added they are the declared ones in all three rows
same_bounds : (own other wide : Row) (d : ℤ × ℤ) → AreBoundsGrown (pos 0) own wide → HasBounds own d
    → HasBounds other d → HasBounds wide (ends other.err)
same_bounds own other wide d grown here there =
    let err = here.err ∙ sym there.err in
    let sure = here.sure ∙ sym there.err in
    let lo = first_is own.err.lo own.err.hi other.err.lo other.err.hi err in
    let hi = second_is own.err.lo own.err.hi other.err.lo other.err.hi err in
    let sure_lo = first_is own.sure_lo own.sure_hi other.err.lo other.err.hi sure in
    let sure_hi = second_is own.sure_lo own.sure_hi other.err.lo other.err.hi sure in
    record {
      err = same_pair wide.err.lo wide.err.hi other.err.lo other.err.hi (omega (arith, ints, grown.least_lo, lo)) (omega (arith, ints, grown.greatest_hi, hi));
      sure = same_pair wide.sure_lo wide.sure_hi other.err.lo other.err.hi (omega (arith, ints, grown.greatest_lo, sure_lo)) (omega (arith, ints, grown.least_hi, sure_hi));
    }

-- the grown ones hold the other ones, or both are the declared ones
record BoundsAgree (delays : Delays) (wide other : Row) : Type 0 where
  pub held : HoldEach (bounds_compared delays wide other)
  pub same : HasBound delays wide other

-- without a delay that is mapped G is 0
plain_spares : (root : GridBox) (zenith vertical : Option Span)
    → (is_none zenith && is_none vertical) ≡ true
    → delay_spare Troposphere root zenith + delay_spare Ionosphere root vertical ≡ 0
plain_spares root None None e = refl
plain_spares root None (Some vertical) e = absurd cc
plain_spares root (Some zenith) vertical e = absurd cc

plain_spare : (root : GridBox) (delays : Delays) → is_plain delays ≡ true
    → err_spare_of root delays ≡ 0
plain_spare root delays e = plain_spares root delays.zenith delays.vertical e

bounds_by : (plain : Bool) (spare : ℕ) (own other wide : Row) (c : Chain) (d : ℤ × ℤ)
    → AreBoundsGrown (pos spare) own wide
    → HoldsChain own c → HoldsChain other c → (other.sure_lo -ℤ other.err.lo) ≤ℤ pos spare
    → (other.err.hi -ℤ other.sure_hi) ≤ℤ pos spare
    → (plain ≡ true → spare ≡ 0) → (plain ≡ true → HasBounds own d)
    → (plain ≡ true → HasBounds other d)
    → HoldEach (bounds_unless plain wide other) × HasBoundIf plain wide other
bounds_by true spare own other wide c d grown here there low high none plain also =
    (tt, same_bounds own other wide d (subst (λ (n : ℕ). AreBoundsGrown (pos n) own wide) (none refl) grown) (plain refl) (also refl))
bounds_by false spare own other wide c d grown here there low high none plain also = (
  (
    holds_side spare (low_bounds own) (low_bounds wide) (low_bounds other) c.lo grown.least_lo grown.greatest_lo here.lo there.lo low,
    (holds_side spare (high_bounds own) (high_bounds wide) (high_bounds other) c.hi grown.least_hi grown.greatest_hi here.hi there.hi high, tt),
  ),
  tt,
)

bounds_agree : (root : GridBox) (delays : Delays) (own other wide : Row) (c : Chain) (d : ℤ × ℤ)
    → AreBoundsGrown (pos (err_spare_of root delays)) own wide
    → HoldsChain own c → HoldsChain other c → AreBoundsTight root delays other
    → (is_plain delays ≡ true → HasBounds own d) → (is_plain delays ≡ true → HasBounds other d)
    → BoundsAgree delays wide other
bounds_agree root delays own other wide c d grown here there tight plain also =
    let both = bounds_by (is_plain delays) (err_spare_of root delays) own other wide c d grown here there tight.low tight.high (plain_spare root delays) plain also in
    record { held = both.0; same = both.1 }

-- ---- lines

-- by the delays that are mapped
module _ (delays : Delays) where
  -- the line is the expected one, and passes
  pub record LineAgrees (theirs : SatEntry) (ours : SatLine) : Type 0 where
    pub same : IsSameLine theirs ours
    pub passes : RowPasses delays theirs ours

  abbrev pub AllAgree : List SatEntry → List SatLine → Type 0
  AllAgree [] [] = Unit {0}
  AllAgree [] (line ∷ lines) = ⊥
  AllAgree (e ∷ entries) [] = ⊥
  AllAgree (e ∷ entries) (line ∷ lines) = LineAgrees e line × AllAgree entries lines

-- a search box with a point in it
pub record HasPoint (root : GridBox) : Type 0 where
  pub box : IsSearchBox root
  pub point : Pos
  pub inside : box_holds root point ≡ true

module _ (m : Meaning) (sound : IsSound m) (root : GridBox) (tag : ℤ) where
  -- two own rows over a box that has a point in the search box: a grown one of the first passes against the second
  pub own_agree : (part : GridBox) (p : Pos) → IsSearchBox root → box_holds root p ≡ true
      → box_holds part p ≡ true → (seen : SatObs) (own other wide : Row)
      → m.judged root tag seen None
      → IsOwnRow m part tag seen own → IsOwnRow m part tag seen other
      → IsGrownRow (pos (spare_of part)) (pos (err_spare_of part m.delays)) own wide
      → HoldsOwn m.delays wide other × HasBound m.delays wide other
  own_agree part p box in_root inside seen own other wide usable a b g =
      let (c, allowed) = sound.allowed_exists root tag seen p box in_root usable in
      let here = a.holds p c inside allowed in
      let there = b.holds p c inside allowed in
      let bounds = bounds_agree part m.delays own other wide c (m.declared seen.sat) g.bounds here there b.bounds a.plain b.plain in (
        holds_each m.delays wide other (holds_span part own.x wide.x other.x c.x g.x here.x there.x b.x)
            (holds_span part own.y wide.y other.y c.y g.y here.y there.y b.y)
            (holds_span part own.z wide.z other.z c.z g.z here.z there.z b.z)
            (holds_span part own.range wide.range other.range c.corrected g.range here.corrected there.corrected b.range)
            bounds.held,
        bounds.same,
      )

module _ (m : Meaning) (sound : IsSound m) (root : GridBox) (tag : ℤ) (has : HasPoint root) where
  abbrev Grown : SatLine → SatEntry → Type 0
  Grown own e = IsGrownLine (pos (spare_of root)) (pos (err_spare_of root m.delays)) own e

  rows_agree : (seen : SatObs) (own other wide : Row) → m.judged root tag seen None
      → IsOwnRow m root tag seen own → IsOwnRow m root tag seen other
      → own.sat ≡ seen.sat → other.sat ≡ seen.sat
      → IsGrownRow (pos (spare_of root)) (pos (err_spare_of root m.delays)) own wide
      → LineAgrees m.delays (entry.Row wide) (Usable other)
  rows_agree seen own other wide usable a b named also g = record {
    same = g.sat ∙ (named ∙ sym also);
    passes = own_agree m sound root tag root has.point has.box has.inside has.inside seen own other wide usable a b g;
  }

  not_both : (seen : SatObs) (skip : Skip) → m.judged root tag seen None
      → m.judged root tag seen (Some skip) → ⊥
  not_both seen skip usable skipped = let same = sound.one_judgement root tag seen None (Some skip) usable skipped in cc

  same_skip : (seen : SatObs) (skip other : Skip) → m.judged root tag seen (Some skip)
      → m.judged root tag seen (Some other) → skip ≡ other
  same_skip seen skip other a b = let same = sound.one_judgement root tag seen (Some skip) (Some other) a b in cc

  line_agrees : (seen : SatObs) (own other : SatLine) (e : SatEntry) → IsOwnLine m root tag seen own
      → IsOwnLine m root tag seen other → Grown own e → LineAgrees m.delays e other
  line_agrees seen (Usable own) (Usable other) (entry.Row wide) a b g = rows_agree seen own other wide a.1 a.2 b.2 a.0 b.0 g
  line_agrees seen (Usable own) (Skipped sat skip) (entry.Row wide) a b g = absurd (not_both seen skip a.1 b.1)
  line_agrees seen (Usable own) other (entry.Skipped sat skip) a b g = absurd g
  line_agrees seen (Skipped sat skip) other (entry.Row wide) a b g = absurd g
  line_agrees seen (Skipped sat skip) (Usable other) (entry.Skipped same why) a b g = absurd (not_both seen skip b.1 a.1)
  line_agrees seen (Skipped sat skip) (Skipped named reason) (entry.Skipped same why) a b g =
      record { same = (g.0 ∙ (a.0 ∙ sym b.0), g.1 ∙ same_skip seen skip reason a.1 b.1); passes = tt }

  -- each grown line of one reading passes against the other
  pub lines_agree : (sats : List SatObs) (own other : List SatLine) (entries : List SatEntry)
      → AreOwnLines m root tag sats own → AreOwnLines m root tag sats other
      → AreGrownLines (pos (spare_of root)) (pos (err_spare_of root m.delays)) own entries
      → AllAgree m.delays entries other
  lines_agree [] [] [] [] a b g = tt
  lines_agree [] [] [] (e ∷ entries) a b g = absurd g
  lines_agree [] [] (line ∷ other) entries a b g = absurd b
  lines_agree [] (line ∷ own) other entries a b g = absurd a
  lines_agree (seen ∷ sats) [] other entries a b g = absurd a
  lines_agree (seen ∷ sats) (line ∷ own) [] entries a b g = absurd b
  lines_agree (seen ∷ sats) (line ∷ own) (ours ∷ other) [] a b g = absurd g
  lines_agree (seen ∷ sats) (line ∷ own) (ours ∷ other) (e ∷ entries) a b g = (line_agrees seen line ours e a.0 b.0 g.0, lines_agree sats own other entries a.1 b.1 g.1)

  pub skips_agree : (sats : List SatObs) (own other : List SatLine)
      → AreOwnLines m root tag sats own → AreOwnLines m root tag sats other
      → AllAgree m.delays (skips_of own) (skipped_in other)
  skips_agree [] [] [] a b = tt
  skips_agree [] [] (line ∷ other) a b = absurd b
  skips_agree [] (line ∷ own) other a b = absurd a
  skips_agree (seen ∷ sats) [] other a b = absurd a
  skips_agree (seen ∷ sats) (line ∷ own) [] a b = absurd b
  skips_agree (seen ∷ sats) (Usable row ∷ own) (Usable ours ∷ other) a b = skips_agree sats own other a.1 b.1
  skips_agree (seen ∷ sats) (Usable row ∷ own) (Skipped sat skip ∷ other) a b = absurd (not_both seen skip a.0.1 b.0.1)
  skips_agree (seen ∷ sats) (Skipped sat skip ∷ own) (Usable ours ∷ other) a b = absurd (not_both seen skip b.0.1 a.0.1)
  skips_agree (seen ∷ sats) (Skipped sat skip ∷ own) (Skipped named why ∷ other) a b =
      (record { same = (a.0.0 ∙ sym b.0.0, same_skip seen skip why a.0.1 b.0.1); passes = tt }, skips_agree sats own other a.1 b.1)

  pub same_usable : (sats : List SatObs) (own other : List SatLine)
      → AreOwnLines m root tag sats own → AreOwnLines m root tag sats other
      → usable_in own ≡ usable_in other
  same_usable [] [] [] a b = refl
  same_usable [] [] (line ∷ other) a b = absurd b
  same_usable [] (line ∷ own) other a b = absurd a
  same_usable (seen ∷ sats) [] other a b = absurd a
  same_usable (seen ∷ sats) (line ∷ own) [] a b = absurd b
  same_usable (seen ∷ sats) (Usable row ∷ own) (Usable ours ∷ other) a b = omega (arith, same_usable sats own other a.1 b.1)
  same_usable (seen ∷ sats) (Usable row ∷ own) (Skipped sat skip ∷ other) a b = absurd (not_both seen skip a.0.1 b.0.1)
  same_usable (seen ∷ sats) (Skipped sat skip ∷ own) (Usable ours ∷ other) a b = absurd (not_both seen skip b.0.1 a.0.1)
  same_usable (seen ∷ sats) (Skipped sat skip ∷ own) (Skipped named why ∷ other) a b = omega (arith, same_usable sats own other a.1 b.1)

  -- both name the same usable satellites
  pub grown_sats : (by err_by : ℤ) (sats : List SatObs) (own other : List SatLine) (entries : List SatEntry)
      → AreOwnLines m root tag sats own → AreOwnLines m root tag sats other
      → AreGrownLines by err_by own entries
      → map (λ row. row.sat) (rows_of entries) ≡ map (λ seen. seen.sat) (usable_of sats other)
  grown_sats by err_by [] [] [] [] a b g = refl
  grown_sats by err_by [] [] [] (e ∷ entries) a b g = absurd g
  grown_sats by err_by [] [] (line ∷ other) entries a b g = absurd b
  grown_sats by err_by [] (line ∷ own) other entries a b g = absurd a
  grown_sats by err_by (seen ∷ sats) [] other entries a b g = absurd a
  grown_sats by err_by (seen ∷ sats) (line ∷ own) [] entries a b g = absurd b
  grown_sats by err_by (seen ∷ sats) (line ∷ own) (ours ∷ other) [] a b g = absurd g
  grown_sats by err_by (seen ∷ sats) (Usable row ∷ own) (Usable ours ∷ other) (entry.Row wide ∷ entries) a b g =
      let here : wide.sat ≡ seen.sat = g.0.sat ∙ a.0.0 in
      let later = grown_sats by err_by sats own other entries a.1 b.1 g.1 in
      cc
  grown_sats by err_by (seen ∷ sats) (Usable row ∷ own) (ours ∷ other) (entry.Skipped sat skip ∷ entries) a b g = absurd g.0
  grown_sats by err_by (seen ∷ sats) (Usable row ∷ own) (Skipped sat skip ∷ other) (entry.Row wide ∷ entries) a b g = absurd (not_both seen skip a.0.1 b.0.1)
  grown_sats by err_by (seen ∷ sats) (Skipped sat skip ∷ own) (ours ∷ other) (entry.Row wide ∷ entries) a b g = absurd g.0
  grown_sats by err_by (seen ∷ sats) (Skipped sat skip ∷ own) (Usable ours ∷ other) (entry.Skipped same why ∷ entries) a b g = absurd (not_both seen skip b.0.1 a.0.1)
  grown_sats by err_by (seen ∷ sats) (Skipped sat skip ∷ own) (Skipped named reason ∷ other) (entry.Skipped same why ∷ entries) a b g = grown_sats by err_by sats own other entries a.1 b.1 g.1

  -- a grown line names its satellite
  pub names_of : (by err_by : ℤ) (sats : List SatObs) (own : List SatLine) (entries : List SatEntry)
      → AreOwnLines m root tag sats own → AreGrownLines by err_by own entries
      → map sat_of entries ≡ map (λ seen. seen.sat) sats
  names_of by err_by [] [] [] a g = refl
  names_of by err_by [] [] (e ∷ entries) a g = absurd g
  names_of by err_by [] (line ∷ own) entries a g = absurd a
  names_of by err_by (seen ∷ sats) [] entries a g = absurd a
  names_of by err_by (seen ∷ sats) (line ∷ own) [] a g = absurd g
  names_of by err_by (seen ∷ sats) (line ∷ own) (e ∷ entries) a g =
      let here : sat_of e ≡ seen.sat = line_names m root tag by err_by seen line e a.0 g.0 in
      let later = names_of by err_by sats own entries a.1 g.1 in
      cc
