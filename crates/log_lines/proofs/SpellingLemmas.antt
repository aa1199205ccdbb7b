-- A spelled line holds no LF, and its words are those that it was joined of.
use Rattle.std.proofs.Common.{◌≡◌, ℕ, zero, suc, ◌+◌, ◌*◌, ◌<◌, ◌≤◌, ◌^◌, ℤ, Bool, true, false, List, [], ◌∷◌, ◌++◌, length, refl, sym, ap, subst, ◌∙◌, lit<, arith, inl, inr}
use Rattle.std.specs.Prelude.{if◌then◌else◌}
use Rattle.std.specs.Fmt.{signed_decimal}
use Rattle.std.proofs.lemmas.Int.{ints}
use Rattle.std.proofs.lemmas.List.{length-append}
use Rattle.grid_model.specs.Sizes.{IsErrorSize}
use Rattle.grid_model.specs.declared.boxes.Pos.{Pos}
use Rattle.grid_model.specs.declared.spans.Span.{Span}
use Rattle.sat_model.specs.declared.rows.Row.{Row}
use Rattle.gnss_model.specs.declared.satellites.Sat.{Sat}
use Rattle.gnss_model.specs.declared.satellites.Skip.{Skip}
use Rattle.sat_model.specs.declared.rows.SatEntry.{SatEntry}
use Rattle.sat_model.specs.declared.rows.SatEntry.TheVariants as entry
use Rattle.log_lines.specs.declared.limits.Limits.{Limits}
use Rattle.log_lines.specs.declared.line.Corners.{Corners}
use Rattle.log_lines.specs.declared.line.Header.{Header}
use Rattle.log_lines.specs.declared.line.LineName.{LineName}
use Rattle.log_lines.specs.declared.line.LineName.TheVariants as name
use Rattle.log_lines.specs.declared.line.LogLine.{LogLine}
use Rattle.log_lines.specs.declared.line.LogLine.TheVariants as line
use Rattle.log_tokens.specs.Words.{words}
use Rattle.log_tokens.specs.Fields.{optional_words, span_words, IsSpanWithin, pos_words, IsPosWithin, sat_words, IsNamed, skip_words, SkipFits, IsTime, IsCountFromTo}
use Rattle.log_lines.specs.Rows.{are_ends, sure_words, error_words, row_words, RowFits, entry_words, EntryFits, root_words, CornersFit}
use Rattle.log_lines.specs.Lines.{spelled, name_of, fields, limits_words, header_words, HeaderFits, LineFits, line_words, line_text}
use Rattle.log_tokens.proofs.TimeLemmas.{time_count}
use Rattle.log_tokens.proofs.JoinedLemmas.{words-joined}
use Rattle.sat_model.specs.declared.half_spaces.HalfSpace.{HalfSpace}
use Rattle.bound_lines.specs.declared.bound_head.BoundHead.{BoundHead}
use Rattle.bound_lines.proofs.ValueLemmas.{head_are, sum_are, bound_is, by_is}
use Rattle.step_lines.specs.declared.names.StepName.{StepName}
use Rattle.step_lines.specs.declared.names.StepName.TheVariants as kind
use Rattle.step_lines.specs.Lines.{name_word}
use Rattle.step_lines.specs.Texts.{HasNoEnd}
use Rattle.step_lines.specs.OneSpelling.{IsWord, AreWords, decimal_word, within_word, count_word, step_are, not_blank, none_blank, joined_end, same_front}
use Rattle.step_lines.specs.OneSpelling.{name_is as step_name_is, same_name as one_name}

words-on : (ws more : List (List ℕ)) → AreWords ws → AreWords more → AreWords (ws ++ more)
words-on [] more first second = second
words-on (w ∷ ws) more first second = (first.0, words-on ws more first.1 second)

time_word : (ps : ℤ) → IsTime ps → IsWord (signed_decimal ps)
time_word ps time = let n = time_count ps time in subst (λ (z : ℤ). IsWord (signed_decimal z)) (sym n.is) (decimal_word n.count (omega (arith, n.within)))

-- ---- fields

span_are : (bound : ℕ) (s : Span) → bound < 10 ^ 64 → IsSpanWithin bound s → AreWords (span_words s)
span_are bound s small within = (within_word bound s.lo small within.0, (within_word bound s.hi small within.1, tt))

pos_are : (bound : ℕ) (p : Pos) → bound < 10 ^ 64 → IsPosWithin bound p → AreWords (pos_words p)
pos_are bound p small within = (within_word bound p.x small within.0, (within_word bound p.y small within.1, (within_word bound p.z small within.2, tt)))

sat_are : (s : Sat) → IsNamed s → AreWords (sat_words s)
sat_are s named = elim named.0 [
  | inl gps ↦ ((omega (arith, gps), (omega arith, (omega arith, tt))), tt)
  | inr galileo ↦ ((omega (arith, galileo), (omega arith, (omega arith, tt))), tt)
]

limits_are : (r : Limits) → AreWords (limits_words r)
limits_are r = (count_word 8 r.outliers (lit< tt) r.few_outliers, (count_word 200000 r.bisections (lit< tt) r.few_bisections, (within_word 10000000000 r.width (lit< tt) (record { low = omega (arith, ints, r.wide); high = r.narrow }), tt)))

header_are : (h : Header) → HeaderFits h → AreWords (header_words h)
header_are h fits = (count_word 200000 h.index (lit< tt) fits.index.1, (time_word h.ps fits.ps, (count_word 64 h.n (lit< tt) fits.n.1, tt)))

-- two words, or none
told_are : (none : Bool) (lo hi : ℤ) → IsErrorSize lo × IsErrorSize hi
    → AreWords (if none then [] else (signed_decimal lo ∷ signed_decimal hi ∷ []))
told_are true lo hi within = tt
told_are false lo hi within = (within_word 1000000000000 lo (lit< tt) within.0, (within_word 1000000000000 hi (lit< tt) within.1, tt))

row_are : (r : Row) → RowFits r → AreWords (row_words r)
row_are r gps =
    let sure = told_are (are_ends r.err r.sure_lo r.sure_hi) r.sure_lo r.sure_hi r.sure_within in
    let err = words-on (span_words r.err) (sure_words r.err r.sure_lo r.sure_hi) (span_are 1000000000000 r.err (lit< tt) r.err_within) sure in
    let range = words-on (span_words r.range) (error_words r) (span_are 60000000000000 r.range (lit< tt) r.range_within) err in
    let z = words-on (span_words r.z) (span_words r.range ++ error_words r) (span_are 60000000000000 r.z (lit< tt) r.z_within) range in
    let y = words-on (span_words r.y) (span_words r.z ++ (span_words r.range ++ error_words r)) (span_are 60000000000000 r.y (lit< tt) r.y_within) z in
    let x = words-on (span_words r.x) (span_words r.y ++ (span_words r.z ++ (span_words r.range ++ error_words r))) (span_are 60000000000000 r.x (lit< tt) r.x_within) y in
    words-on (sat_words r.sat) (span_words r.x ++ (span_words r.y ++ (span_words r.z ++ (span_words r.range ++ error_words r)))) (sat_are r.sat gps) x

optional_are : (n : ℕ) → n ≤ 20 → AreWords (optional_words n)
optional_are zero le = tt
optional_are (suc n) le = (count_word 20 (suc n) (lit< tt) le, tt)

skip_are : (s : Skip) → SkipFits s → AreWords (skip_words s)
skip_are s (inl (inl few, none)) = (count_word 5 s.number (lit< tt) few.1, optional_are s.field (omega (arith, none)))
skip_are s (inl (inr more, none)) = (count_word 9 s.number (lit< tt) more.1, optional_are s.field (omega (arith, none)))
skip_are s (inr field) = (count_word 6 s.number (lit< tt) (omega (arith, field.0)), optional_are s.field field.1.1)

entry_are : (e : SatEntry) → EntryFits e → AreWords (entry_words e)
entry_are (entry.Row r) fits = row_are r fits
entry_are (entry.Skipped sat skip) fits = words-on (sat_words sat) (skip_words skip) (sat_are sat fits.0) (skip_are skip fits.1)

corners_are : (c : Corners) → CornersFit c → AreWords (root_words c)
corners_are c fits = words-on (pos_words c.lo) (pos_words c.hi) (pos_are 10000000000000 c.lo (lit< tt) fits.lo_within) (pos_are 10000000000000 c.hi (lit< tt) fits.hi_within)

-- the half-space and the number of sums of a bound's line
abbrev pub head_of : (half : HalfSpace) (sums : ℕ) → IsCountFromTo 1 64 sums → BoundHead
head_of half sums fits = record { half = half; sums = sums; some_sums = fits.0; few_sums = fits.1 }

fields_are : (l : LogLine) → LineFits l → AreWords (fields l)
fields_are (line.Version version) fits = (count_word 4 version (lit< tt) fits.1, tt)
fields_are (line.Rules r) fits = limits_are r
fields_are (line.Few h) fits = header_are h fits
fields_are (line.Epoch h) fits = header_are h fits
fields_are (line.Sat e) fits = entry_are e fits
fields_are (line.Root c) fits = corners_are c fits
fields_are (line.Step s) fits = step_are s fits
fields_are (line.Renew c) fits = corners_are c fits
fields_are (line.Done n) fits = (count_word 200000 n (lit< tt) fits.1, tt)
fields_are (line.Bound half sums) fits = head_are (head_of half sums fits)
fields_are (line.By sum) fits = sum_are sum

name_is : (n : LineName) → IsWord (spelled n)
name_is name.Gpscover = (lit< tt, (lit< tt, (lit< tt, (lit< tt, (lit< tt, (lit< tt, (lit< tt, (lit< tt, tt))))))))
name_is name.Rules = (lit< tt, (lit< tt, (lit< tt, (lit< tt, (lit< tt, tt)))))
name_is name.Few = (lit< tt, (lit< tt, (lit< tt, tt)))
name_is name.Epoch = (lit< tt, (lit< tt, (lit< tt, (lit< tt, (lit< tt, tt)))))
name_is name.Sat = (lit< tt, (lit< tt, (lit< tt, tt)))
name_is name.Skip = (lit< tt, (lit< tt, (lit< tt, (lit< tt, tt))))
name_is name.Root = (lit< tt, (lit< tt, (lit< tt, (lit< tt, tt))))
name_is (name.Step n) = step_name_is n
name_is name.Renew = (lit< tt, (lit< tt, (lit< tt, (lit< tt, (lit< tt, tt)))))
name_is name.Done = (lit< tt, (lit< tt, (lit< tt, (lit< tt, tt))))
name_is name.Bound = bound_is
name_is name.By = by_is

-- ---- names

-- tells the names apart: the first two bytes, and how many follow
abbrev digest : List ℕ → ℕ
digest (first ∷ second ∷ more) = first + 256 * (second + 256 * length more)
digest _ = 0

-- no other line has the first word of one of a step
abbrev IsOther : LineName → Type 0
IsOther (name.Step n) = ⊥
IsOther _ = Unit {0}

no_step : (m : StepName) (n : LineName) → IsOther n → name_word m ≡ spelled n → ⊥
no_step kind.Cut (name.Step n) other e = other
no_step kind.Split (name.Step n) other e = other
no_step kind.Out (name.Step n) other e = other
no_step kind.In (name.Step n) other e = other
no_step kind.Edge (name.Step n) other e = other
no_step _ _ other e = omega (arith, ap digest e)

pub same_name : (m n : LineName) → spelled m ≡ spelled n → m ≡ n
same_name (name.Step m) (name.Step n) e = ap name.Step (one_name m n e)
same_name (name.Step m) name.Gpscover e = absurd (no_step m name.Gpscover tt e)
same_name (name.Step m) name.Rules e = absurd (no_step m name.Rules tt e)
same_name (name.Step m) name.Few e = absurd (no_step m name.Few tt e)
same_name (name.Step m) name.Epoch e = absurd (no_step m name.Epoch tt e)
same_name (name.Step m) name.Sat e = absurd (no_step m name.Sat tt e)
same_name (name.Step m) name.Skip e = absurd (no_step m name.Skip tt e)
same_name (name.Step m) name.Root e = absurd (no_step m name.Root tt e)
same_name (name.Step m) name.Renew e = absurd (no_step m name.Renew tt e)
same_name (name.Step m) name.Done e = absurd (no_step m name.Done tt e)
same_name (name.Step m) name.Bound e = absurd (no_step m name.Bound tt e)
same_name (name.Step m) name.By e = absurd (no_step m name.By tt e)
same_name name.Gpscover (name.Step n) e = absurd (no_step n name.Gpscover tt (sym e))
same_name name.Rules (name.Step n) e = absurd (no_step n name.Rules tt (sym e))
same_name name.Few (name.Step n) e = absurd (no_step n name.Few tt (sym e))
same_name name.Epoch (name.Step n) e = absurd (no_step n name.Epoch tt (sym e))
same_name name.Sat (name.Step n) e = absurd (no_step n name.Sat tt (sym e))
same_name name.Skip (name.Step n) e = absurd (no_step n name.Skip tt (sym e))
same_name name.Root (name.Step n) e = absurd (no_step n name.Root tt (sym e))
same_name name.Renew (name.Step n) e = absurd (no_step n name.Renew tt (sym e))
same_name name.Done (name.Step n) e = absurd (no_step n name.Done tt (sym e))
same_name name.Bound (name.Step n) e = absurd (no_step n name.Bound tt (sym e))
same_name name.By (name.Step n) e = absurd (no_step n name.By tt (sym e))
same_name name.Gpscover name.Gpscover e = refl
same_name name.Rules name.Rules e = refl
same_name name.Few name.Few e = refl
same_name name.Epoch name.Epoch e = refl
same_name name.Sat name.Sat e = refl
same_name name.Skip name.Skip e = refl
same_name name.Root name.Root e = refl
same_name name.Renew name.Renew e = refl
same_name name.Done name.Done e = refl
same_name name.Bound name.Bound e = refl
same_name name.By name.By e = refl
same_name _ _ e = absurd (omega (arith, ap digest e))

-- ---- lines

-- the words of a line that fits are those that it was joined of
pub words-line_text : (l : LogLine) → LineFits l → words (line_text l) ≡ line_words l
words-line_text l fits = words-joined (spelled (name_of l)) (fields l) (not_blank _ (name_is (name_of l))) (none_blank _ (fields_are l fits))

pub line_end : (l : LogLine) → LineFits l → HasNoEnd (line_text l)
line_end l fits = joined_end (line_words l) (name_is (name_of l), fields_are l fits)

-- two lines that fit and begin the same text have the same words
pub same_line : (l m : LogLine) (rest more : List ℕ) → LineFits l → LineFits m
    → line_text l ++ 10 ∷ rest ≡ line_text m ++ 10 ∷ more
    → (line_words l ≡ line_words m) × (rest ≡ more)
same_line l m rest more f g e =
    let same = same_front (line_text l) (line_text m) rest more (line_end l f) (line_end m g) e in
    (sym (words-line_text l f) ∙ ap words same.0 ∙ words-line_text m g, same.1)

-- a fitting line begins some text
pub line_some : (l : LogLine) (text rest : List ℕ) → text ≡ line_text l ++ 10 ∷ rest → text ≡ [] → ⊥
line_some l text rest is none = omega (arith, ap length (sym is ∙ none), length-append (line_text l) (10 ∷ rest))
