-- What a usable satellite's row is made of, and the lines of an epoch.
use Rattle.std.proofs.Common.{◌≡◌, ℕ, ◌+◌, ◌*◌, ◌^◌, ◌≤◌, arith, refl, sym, ap, subst, ◌∙◌, List, [], ◌∷◌, ◌++◌, length, cond, true, false, drop, get_or, add-one, drop-cons, drop_of_length-le, append_assoc, append-nil, ◌<◌}
use Rattle.std.specs.Prelude.{ℤ, Option, None, Some, option_map, ◌==◌, pos, ◌+ℤ◌, ◌-ℤ◌, ◌≤ℤ◌, ◌<ℤ◌, unsigned_abs}
use Rattle.std.specs.List.{AllByRecursion}
use Rattle.std.proofs.lemmas.Int.{ints}
use Rattle.std.proofs.lemmas.List.Elements.{recursion_from_All}
use Rattle.error_bounds.specs.declared.galileo.Galileo.{Galileo}
use Rattle.error_bounds.specs.declared.settings.Settings.{Settings}
use Rattle.error_bounds.specs.Reading.{with_ends, is_sat, extra_for, galileo_value, offset_for, bound_for, value_of_settings}
use Rattle.error_bounds.specs.Sizes.{IsDeclared}
use Rattle.rinex_nav.proofs.WeekLemmas.{time_only}
use Rattle.rinex_nav.specs.ElementsOf.{IsRounded, AreElements}
use Rattle.rinex_nav.specs.Weeks.{IsEphemerisTime, IsAge}
use Rattle.rinex_nav.specs.declared.record.NavRecord.{NavRecord}
use Rattle.rinex_obs.specs.declared.obs.SatObs.{SatObs}
use Rattle.exact_decimal.specs.Units.{denominator}
use Rattle.exact_decimal.specs.declared.decimal.Decimal.{Decimal}
use Rattle.exact_decimal.specs.declared.unit.Unit.{Unit}
use Rattle.exact_decimal.specs.declared.unit.Unit.TheVariants.{Length, Time}
use Rattle.exact_decimal.proofs.Limits.{some_parts}
use Rattle.pseudorange_prep.specs.Ranges.{IsNarrow}
use Rattle.grid_model.proofs.ProductLemmas.{add_mul, mul_lt_back}
use Rattle.grid_model.specs.declared.spans.Wide.{Wide}
use Rattle.rinex_nav.specs.FieldBounds.{field_of}
use Rattle.grid_model.specs.Boxes.{GridBox}
use Rattle.grid_model.specs.declared.boxes.Pos.{Pos}
use Rattle.gnss_model.specs.ChainValues.{Observed}
use Rattle.gnss_model.specs.Pseudorange.{Codes}
use Rattle.sat_model.specs.Relaxed.{ends}
use Rattle.grid_model.specs.Sizes.{IsWithin}
use Rattle.gnss_model.specs.declared.elements.Elements.{Elements}
use Rattle.gnss_model.specs.declared.satellites.Sat.{Sat}
use Rattle.gnss_model.specs.declared.satellites.Signal.{Signal}
use Rattle.gnss_model.specs.declared.satellites.Signal.TheVariants.{Single, Dual}
use Rattle.gnss_model.specs.declared.delays.Delays.{Delays}
use Rattle.grid_model.specs.declared.spans.Span.{Span}
use Rattle.usable_sats.proofs.JudgementLemmas.{codes_one, elements_one}
use Rattle.usable_sats.specs.Judgements.{IsKnownBy}
use Rattle.sat_rows.specs.Bases.{ComesFrom, base_list, HasBase, AreBasesOf}
use Rattle.sat_rows.specs.Chains.{Chain, observed, AreValues, IsChainAt}
use Rattle.sat_rows.specs.Meanings.{Meaning}
use Rattle.sat_rows.specs.OwnRows.{IsOwnLine, AreOwnLines, IsSmall, IsSmallLine, AreSmall, usable_line, usable_in}
use Rattle.sat_rows.specs.RowSizes.{AreNarrowWith, AreNarrow, IsNearEpoch}
use Rattle.usable_sats.specs.Usability.{Sighting, HaveValue, ArePlausible, IsUsable}
use Rattle.sat_rows.specs.declared.bases.Base.{Base}
use Rattle.sat_rows.specs.declared.lines.SatLine.{SatLine}
use Rattle.sat_rows.specs.declared.lines.SatLine.TheVariants.{Usable, Skipped}

-- ---- codes

-- a floor and a ceiling are at most one apart
rounded_narrow : (number : Decimal) (unit : Unit) (a : Wide) → IsRounded a number unit
    → IsNarrow 1 a.lo a.hi
rounded_narrow number unit a f =
    let d = pos (denominator number.ten unit) in
    let k : a.hi <ℤ (a.lo +ℤ pos 2) = mul_lt_back a.hi (a.lo +ℤ pos 2) d (some_parts number.ten unit)
    (omega (arith, ints, add_mul a.lo (pos 2) d, f.floor.gt, f.ceiling.lt)) in
    record { width = omega (arith, ints) }

pub narrow_codes : (signal : Signal) (seen : SatObs) (codes : Codes) → HaveValue signal seen codes
    → AreNarrow codes
narrow_codes (Single code) seen codes v = subst (AreNarrowWith codes.first) (sym v.3) (rounded_narrow v.0 Length codes.first v.2)
narrow_codes (Dual code other) seen codes v = subst (AreNarrowWith codes.first) (sym v.1.3) (rounded_narrow v.0.0 Length codes.first v.0.2, rounded_narrow v.1.0 Length v.1.1 v.1.4)

-- ---- times

-- ... a time that is near that of the epoch
near_time : (tag other time age : ℤ) (max apart : ℕ) → age ≡ pos (unsigned_abs (tag -ℤ time))
    → age ≤ℤ pos (max * 1000000000000) → unsigned_abs (tag -ℤ other) ≤ apart * 1000000000000
    → max + apart ≤ 14400 → (more : ℤ) → pos 0 ≤ℤ more → more ≤ℤ pos 1
    → IsWithin 14401000000000000 (other -ℤ (time +ℤ more))
near_time tag other time age max apart e fresh near short more low high = record { low = omega (arith, ints, e); high = omega (arith, ints, e) }

plus_none : (s : ℤ) → s +ℤ pos 0 ≡ s
plus_none s = omega (arith, ints)

plus_apart : (s l h : ℤ) → (s +ℤ l) +ℤ (h -ℤ l) ≡ s +ℤ h
plus_apart s l h = omega (arith, ints)

plus_some : (l h : ℤ) → l ≤ℤ h → pos 0 ≤ℤ (h -ℤ l)
plus_some l h o = omega (arith, ints)

near_elements : (r : NavRecord) (el : Elements) (tag other age : ℤ) (max apart : ℕ) → IsAge r tag age
    → age ≤ℤ pos (max * 10 ^ 12) → unsigned_abs (tag -ℤ other) ≤ apart * 10 ^ 12 → max + apart ≤ 14400
    → AreElements r el → IsNearEpoch el other
near_elements r el tag other age max apart a fresh near short f =
    let here : IsEphemerisTime r (el.week_start +ℤ el.toe_week.lo) = record { inside = a.1.inside; toe = el.toe_week.lo; start = el.week_start; toe_is = f.toe_week.floor; start_is = f.week_start; time_is = refl } in
    let same = time_only r a.0 (el.week_start +ℤ el.toe_week.lo) a.1 here in
    let age_is : age ≡ pos (unsigned_abs (tag -ℤ (el.week_start +ℤ el.toe_week.lo))) = subst (λ (t : ℤ). age ≡ pos (unsigned_abs (tag -ℤ t))) same a.2 in
    let old : age ≤ℤ pos (max * 1000000000000) = fresh in
    let beside : unsigned_abs (tag -ℤ other) ≤ apart * 1000000000000 = near in
    let narrow = rounded_narrow (field_of r.fields 11) Time el.toe_week f.toe_week in
    record {
      low = subst (λ (t : ℤ). IsWithin 14401000000000000 (other -ℤ t)) (plus_none (el.week_start +ℤ el.toe_week.lo)) (near_time tag other (el.week_start +ℤ el.toe_week.lo) age max apart age_is old beside short (pos 0) (omega (arith, ints)) (omega (arith, ints)));
      high = subst (λ (t : ℤ). IsWithin 14401000000000000 (other -ℤ t)) (plus_apart el.week_start el.toe_week.lo el.toe_week.hi)
          (near_time tag other (el.week_start +ℤ el.toe_week.lo) age max apart age_is old beside short (el.toe_week.hi -ℤ el.toe_week.lo) (plus_some el.toe_week.lo el.toe_week.hi el.toe_week.ordered) narrow.width);
    }

no_time : (tag : ℤ) → unsigned_abs (tag -ℤ tag) ≤ 0 * 10 ^ 12
no_time tag = omega (arith, ints)

-- ---- what a usable satellite is known by

module _ (a : Sighting) (codes : Codes) (el : Elements) (known : IsKnownBy a codes el) where
  pub known_plausible : ArePlausible a.system codes
  known_plausible = subst (ArePlausible a.system) known.codes_are known.usable.measured.plausible

  pub known_narrow : AreNarrow codes
  known_narrow = subst AreNarrow known.codes_are (narrow_codes a.signal a.seen known.usable.measured.codes known.usable.measured.values)

  -- at a time that is near that of the epoch too
  pub known_near_at : (other : ℤ) (apart : ℕ) → unsigned_abs (a.tag -ℤ other) ≤ apart * 10 ^ 12
      → a.max_age + apart ≤ 14400 → IsNearEpoch el other
  known_near_at other apart near short =
      let fresh = known.usable.used.meets.fresh in
      let here = near_elements known.usable.r known.usable.el a.tag other known.usable.age a.max_age apart fresh.age_is fresh.fresh near short known.usable.elements in
      subst (λ (e : Elements). IsNearEpoch e other) known.el_is here

  pub known_near : a.max_age ≤ 14400 → IsNearEpoch el a.tag
  known_near short = known_near_at a.tag 0 (no_time a.tag) (omega (arith, short))

  known_observed : (u : IsUsable a)
      → observed a u ≡ record { system = a.system; tag = a.tag; codes = codes; el = el }
  known_observed u =
      let c = codes_one a u known.usable ∙ known.codes_are in
      let e = elements_one a u known.usable ∙ known.el_is in
      λ i. record { system = a.system; tag = a.tag; codes = c i; el = e i }

  pub known_comes : (delays : Delays) (declared : ℤ × ℤ) (base : Base)
      → ((p : Pos) (c : Chain) → AreValues delays declared (record { system = a.system; tag = a.tag; codes = codes; el = el }) p c → ComesFrom delays base p c)
      → (p : Pos) (c : Chain) → IsChainAt a delays declared p c → ComesFrom delays base p c
  known_comes delays declared base comes p c chain = comes p c (subst (λ (seen : Observed). AreValues delays declared seen p c) (known_observed chain.usable) chain.are)

-- ---- the declared error

extra_small : (sat : Sat) (extra : List (Sat × Span)) → AllByRecursion (λ e. IsDeclared e.1) extra
    → IsWithin 1000000000 (extra_for sat (with_ends extra)).0 × IsWithin 1000000000 (extra_for sat (with_ends extra)).1
extra_small sat [] f = (record { low = omega (arith, ints); high = omega (arith, ints) }, record { low = omega (arith, ints); high = omega (arith, ints) })
extra_small sat (e ∷ more) f =
    elim (is_sat e.0 sat) as (λ b. IsWithin 1000000000 (cond b (ends e.1) (extra_for sat (with_ends more))).0 × IsWithin 1000000000 (cond b (ends e.1) (extra_for sat (with_ends more))).1) [
      | true ↦ (f.0.lo, f.0.hi)
      | false ↦ extra_small sat more f.1
    ]

offset_small : (sat : Sat) (galileo : Option Galileo)
    → IsWithin 1000000000 (offset_for sat (option_map galileo_value galileo)).0 × IsWithin 1000000000 (offset_for sat (option_map galileo_value galileo)).1
offset_small sat None = (record { low = omega (arith, ints); high = omega (arith, ints) }, record { low = omega (arith, ints); high = omega (arith, ints) })
offset_small sat (Some g) =
    elim (sat.system == 69) as (λ b. IsWithin 1000000000 (cond b (ends g.offset) (pos 0, pos 0)).0 × IsWithin 1000000000 (cond b (ends g.offset) (pos 0, pos 0)).1) [
      | true ↦ (g.offset_within.lo, g.offset_within.hi)
      | false ↦ (record { low = omega (arith, ints); high = omega (arith, ints) }, record { low = omega (arith, ints); high = omega (arith, ints) })
    ]

within_sum : (sum a b c : ℤ) → sum ≡ (a +ℤ b) +ℤ c → IsWithin 4000000000 a → IsWithin 1000000000 b
    → IsWithin 1000000000 c → IsWithin (6 * 10 ^ 9) sum
within_sum sum a b c e f g h =
    let bounds : IsWithin 6000000000 sum = record { low = omega (arith, ints, e, f.low, g.low, h.low); high = omega (arith, ints, e, f.high, g.high, h.high) } in
    bounds

pub error_small : (settings : Settings) (sat : Sat) (err : Span)
    → ends err ≡ bound_for sat (value_of_settings settings) → IsSmall (6 * 10 ^ 9) err
error_small settings sat err e =
    let own = extra_for sat (with_ends settings.extra.items) in
    let shift = offset_for sat (option_map galileo_value settings.galileo) in
    let low : err.lo ≡ (settings.common.lo +ℤ own.0) +ℤ shift.0 = ap (λ (p : ℤ × ℤ). p.0) e in
    let high : err.hi ≡ (settings.common.hi +ℤ own.1) +ℤ shift.1 = ap (λ (p : ℤ × ℤ). p.1) e in
    let offset = offset_small sat settings.galileo in
    let extra = extra_small sat settings.extra.items (recursion_from_All _ settings.extra.items settings.extra_within) in
    let common = settings.common_within in
    (record { lo = within_sum err.lo _ _ _ low common.lo extra.0 offset.0; hi = within_sum err.hi _ _ _ high common.hi extra.1 offset.1 })

-- ---- the lines of an epoch

module _ (m : Meaning) (root : GridBox) (tag : ℤ) where
  -- lines of all satellites: those so far, before whatever lines the satellites left have
  pub record AreSoFar (sats left : List SatObs) (lines : List SatLine) : Type 0 where
    pub own : (more : List SatLine) → AreOwnLines m root tag left more
        → AreOwnLines m root tag sats (lines ++ more)

  pub so_far_none : (sats : List SatObs) → AreSoFar sats sats []
  so_far_none sats = record { own = λ more f. f }

  pub so_far_more : (sats left : List SatObs) (lines after : List SatLine) (k : ℕ) (line : SatLine) (d : SatObs)
      → AreSoFar sats (drop k left) lines → k < length left
      → IsOwnLine m root tag (get_or left k d) line → after ≡ lines ++ line ∷ []
      → AreSoFar sats (drop (k + 1) left) after
  so_far_more sats left lines after k line d f h own e = record {
    own = λ more g.
        let next : drop k left ≡ get_or left k d ∷ drop (k + 1) left = rw (add-one, drop-cons left k d) refl in
        let all = f.own (line ∷ more) (subst (λ (l : List SatObs). AreOwnLines m root tag l (line ∷ more)) (sym next) (own, g)) in
        subst (AreOwnLines m root tag sats) (sym (append_assoc lines (line ∷ []) more) ∙ ap (λ (l : List SatLine). l ++ more) (sym e)) all;
  }

  pub so_far_all : (sats left : List SatObs) (lines : List SatLine) (k : ℕ)
      → AreSoFar sats (drop k left) lines → length left ≤ k → AreOwnLines m root tag sats lines
  so_far_all sats left lines k f h =
      let none = drop_of_length-le left {i = k} h in
      subst (AreOwnLines m root tag sats) (append-nil lines) (f.own [] (subst (λ (l : List SatObs). AreOwnLines m root tag l []) (sym none) tt))

-- the bases of the satellites so far
module _ (m : Meaning) (root : GridBox) (tag : ℤ) where
  pub record BasesSoFar (sats left : List SatObs) (lines : List SatLine) (bases : List Base) : Type 0 where
    pub own : (more : List SatLine) (rest : List Base) → AreBasesOf m root tag left more rest
        → AreBasesOf m root tag sats (lines ++ more) (bases ++ rest)

  pub bases_none : (sats : List SatObs) → BasesSoFar sats sats [] []
  bases_none sats = record { own = λ more rest f. f }

  pub bases_more : (sats left : List SatObs) (lines after : List SatLine) (bases now : List Base) (k : ℕ) (line : SatLine) (own : Option Base) (d : SatObs)
      → BasesSoFar sats (drop k left) lines bases → k < length left
      → HasBase m root tag (get_or left k d) line own → after ≡ lines ++ line ∷ []
      → now ≡ bases ++ base_list own → BasesSoFar sats (drop (k + 1) left) after now
  bases_more sats left lines after bases now k line own d f h has e n = record {
    own = λ more rest g.
        let next : drop k left ≡ get_or left k d ∷ drop (k + 1) left = rw (add-one, drop-cons left k d) refl in
        let all = f.own (line ∷ more) (base_list own ++ rest) (subst (λ (l : List SatObs). AreBasesOf m root tag l (line ∷ more) (base_list own ++ rest)) (sym next) (own, rest, refl, has, g)) in
        let lined = subst (λ (l : List SatLine). AreBasesOf m root tag sats l (bases ++ (base_list own ++ rest))) (sym (append_assoc lines (line ∷ []) more) ∙ ap (λ (l : List SatLine). l ++ more) (sym e)) all in
        subst (λ (l : List Base). AreBasesOf m root tag sats (after ++ more) l) (sym (append_assoc bases (base_list own) rest) ∙ ap (λ (l : List Base). l ++ rest) (sym n)) lined;
  }

  pub bases_all : (sats left : List SatObs) (lines : List SatLine) (bases : List Base) (k : ℕ)
      → BasesSoFar sats (drop k left) lines bases → length left ≤ k
      → AreBasesOf m root tag sats lines bases
  bases_all sats left lines bases k f h =
      let none = drop_of_length-le left {i = k} h in
      let all = f.own [] [] (subst (λ (l : List SatObs). AreBasesOf m root tag l [] []) (sym none) refl) in
      subst (λ (l : List SatLine). AreBasesOf m root tag sats l bases) (append-nil lines) (subst (λ (l : List Base). AreBasesOf m root tag sats (lines ++ []) l) (append-nil bases) all)

small_end : (lines : List SatLine) (line : SatLine) → AreSmall lines → IsSmallLine line
    → AreSmall (lines ++ line ∷ [])
small_end [] line f g = (g, tt)
small_end (first ∷ lines) line f g = (f.0, small_end lines line f.1 g)

pub small_more : (lines after : List SatLine) (line : SatLine) → AreSmall lines → IsSmallLine line
    → after ≡ lines ++ line ∷ [] → AreSmall after
small_more lines after line f g e = subst AreSmall (sym e) (small_end lines line f g)

usable_end : (lines : List SatLine) (line : SatLine)
    → usable_in (lines ++ line ∷ []) ≡ usable_in lines + usable_line line
usable_end [] line = omega arith
usable_end (first ∷ lines) line = omega (arith, usable_end lines line)

pub usable_more : (lines after : List SatLine) (line : SatLine) → after ≡ lines ++ line ∷ []
    → usable_in after ≡ usable_in lines + usable_line line
usable_more lines after line e = ap usable_in e ∙ usable_end lines line

pub usable_one : (line : SatLine) → usable_line line ≤ 1
usable_one (Usable row) = omega arith
usable_one (Skipped sat skip) = omega arith
