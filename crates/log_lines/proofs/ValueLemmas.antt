-- Values that are spelled alike are one value.
use Rattle.std.proofs.Common.{◌≡◌, ℕ, zero, suc, ◌+◌, ◌/◌, ◌%◌, ◌<◌, ◌≤◌, ◌^◌, ℤ, pos, List, [], ◌∷◌, drop, refl, sym, ap, ◌∙◌, lit<, arith, inl, inr}
use Rattle.std.specs.Prelude.{◌≤ℤ◌}
use Rattle.std.specs.Fmt.{signed_decimal}
use Rattle.std.proofs.lemmas.Int.{ints}
use Rattle.std.proofs.Math.Dec.{T_prop}
use Rattle.std.proofs.Math.Bridge.{le_prop}
use Rattle.std.proofs.Math.ListN.{get_or}
use mathlib.Core.HLevel.{is_prop→PathP}
use Rattle.grid_model.specs.Sizes.{IsPlaceSize, IsErrorSize}
use Rattle.sat_model.specs.declared.rules.Rules.{Rules}
use Rattle.grid_model.specs.declared.boxes.Pos.{Pos}
use Rattle.grid_model.specs.declared.spans.Span.{Span}
use Rattle.sat_model.specs.declared.rows.Row.{Row}
use Rattle.gnss_model.specs.declared.satellites.Sat.{Sat}
use Rattle.gnss_model.specs.declared.satellites.Skip.{Skip}
use Rattle.sat_model.specs.declared.rows.SatEntry.{SatEntry}
use Rattle.sat_model.specs.declared.rows.SatEntry.TheVariants as entry
use Rattle.log_lines.specs.declared.limits.Limits.{Limits}
use Rattle.log_lines.specs.declared.line.Corners.{Corners}
use Rattle.log_lines.specs.declared.line.Header.{Header}
use Rattle.log_lines.specs.declared.line.LineName.{LineName}
use Rattle.log_lines.specs.declared.line.LineName.TheVariants as name
use Rattle.log_lines.specs.declared.line.LogLine.{LogLine}
use Rattle.log_lines.specs.declared.line.LogLine.TheVariants as line
use Rattle.log_lines.specs.declared.line.Place.{Place}
use Rattle.log_tokens.specs.Fields.{IsSpanWithin, IsPosWithin, IsTime, sat_words, IsNamed, optional_words, skip_words, SkipFits}
use Rattle.log_lines.specs.Rows.{row_words, RowFits, entry_words, EntryFits, root_words, CornersFit}
use Rattle.log_lines.specs.Lines.{limits_of, limits_words, header_words, HeaderFits, entry_name, name_of, fields, LineFits, line_words, text_of}
use Rattle.log_lines.specs.Order.{Leads}
use Rattle.log_lines.specs.Fitting.{head_of}
use Rattle.std.specs.List.{AllByRecursion}
use Rattle.log_lines.proofs.SpellingLemmas.{head_of as bound_head, same_name, line_some, same_line}
use Rattle.log_lines.proofs.SureLemmas.{ends_from}
use Rattle.log_tokens.proofs.NumberLemmas.{one_number}
use Rattle.bound_lines.specs.BoundLines.{bound_words}
use Rattle.bound_lines.specs.declared.bound_head.BoundHead.{BoundHead}
use Rattle.bound_lines.proofs.ValueLemmas.{one_head, one_sum}
use Rattle.step_lines.specs.Lines.{step_name}
use Rattle.step_lines.specs.OneSpelling.{count_same, at_index, step_from}
use Rattle.log_tokens.proofs.TimeLemmas.{time_count}
use Rattle.grid_model.proofs.OrderLemmas.{le_prop as int_prop}

-- ---- proofs

place_prop : (s : Span) (p q : IsPlaceSize s.lo × IsPlaceSize s.hi) → p ≡ q
place_prop s = hlevel T_prop

error_prop : (lo hi : ℤ) (p q : IsErrorSize lo × IsErrorSize hi) → p ≡ q
error_prop lo hi = hlevel T_prop

-- ---- values

same_span : (a b : Span) → a.lo ≡ b.lo → a.hi ≡ b.hi → a ≡ b
same_span a b p q = λ i. record { lo = p i; hi = q i; ordered = is_prop→PathP (λ j. p j ≤ℤ q j) (λ j. int_prop (p j) (q j)) a.ordered b.ordered i }

pub same_rules : (a b : Rules) → a.outliers ≡ b.outliers → a.bisections ≡ b.bisections
    → a.width ≡ b.width → a.pairs ≡ b.pairs → a ≡ b
same_rules a b p q r s = λ i. record {
  outliers = p i;
  bisections = q i;
  width = r i;
  pairs = s i;
  few_outliers = is_prop→PathP (λ j. p j ≤ 8) (λ j. le_prop) a.few_outliers b.few_outliers i;
  few_bisections = is_prop→PathP (λ j. q j ≤ 200000) (λ j. le_prop) a.few_bisections b.few_bisections i;
  wide = is_prop→PathP (λ j. pos 1000 ≤ℤ r j) (λ j. int_prop (pos 1000) (r j)) a.wide b.wide i;
  narrow = is_prop→PathP (λ j. r j ≤ℤ pos 10000000000) (λ j. int_prop (r j) (pos 10000000000)) a.narrow b.narrow i;
}

-- rules are one where both lines of the head are
pub rules_from : (a b : Rules) → a.pairs ≡ b.pairs → limits_of a ≡ limits_of b → a ≡ b
rules_from a b same e = same_rules a b (ap (λ (l : Limits). l.outliers) e) (ap (λ (l : Limits). l.bisections) e) (ap (λ (l : Limits). l.width) e) same

same_limits : (a b : Limits) → a.outliers ≡ b.outliers → a.bisections ≡ b.bisections
    → a.width ≡ b.width → a ≡ b
same_limits a b p q r = λ i. record {
  outliers = p i;
  bisections = q i;
  width = r i;
  few_outliers = is_prop→PathP (λ j. p j ≤ 8) (λ j. le_prop) a.few_outliers b.few_outliers i;
  few_bisections = is_prop→PathP (λ j. q j ≤ 200000) (λ j. le_prop) a.few_bisections b.few_bisections i;
  wide = is_prop→PathP (λ j. pos 1000 ≤ℤ r j) (λ j. int_prop (pos 1000) (r j)) a.wide b.wide i;
  narrow = is_prop→PathP (λ j. r j ≤ℤ pos 10000000000) (λ j. int_prop (r j) (pos 10000000000)) a.narrow b.narrow i;
}

same_row : (a b : Row) → a.sat ≡ b.sat → a.x ≡ b.x → a.y ≡ b.y → a.z ≡ b.z → a.range ≡ b.range
    → a.err ≡ b.err → a.sure_lo ≡ b.sure_lo → a.sure_hi ≡ b.sure_hi → a ≡ b
same_row a b s x y z range err lo hi = λ i. record {
  sat = s i;
  x = x i;
  y = y i;
  z = z i;
  range = range i;
  err = err i;
  sure_lo = lo i;
  sure_hi = hi i;
  x_within = is_prop→PathP (λ j. IsPlaceSize (x j).lo × IsPlaceSize (x j).hi) (λ j. place_prop (x j)) a.x_within b.x_within i;
  y_within = is_prop→PathP (λ j. IsPlaceSize (y j).lo × IsPlaceSize (y j).hi) (λ j. place_prop (y j)) a.y_within b.y_within i;
  z_within = is_prop→PathP (λ j. IsPlaceSize (z j).lo × IsPlaceSize (z j).hi) (λ j. place_prop (z j)) a.z_within b.z_within i;
  range_within = is_prop→PathP (λ j. IsPlaceSize (range j).lo × IsPlaceSize (range j).hi) (λ j. place_prop (range j)) a.range_within b.range_within i;
  err_within = is_prop→PathP (λ j. IsErrorSize (err j).lo × IsErrorSize (err j).hi) (λ j. error_prop (err j).lo (err j).hi) a.err_within b.err_within i;
  sure_within = is_prop→PathP (λ j. IsErrorSize (lo j) × IsErrorSize (hi j)) (λ j. error_prop (lo j) (hi j)) a.sure_within b.sure_within i;
  low_ordered = is_prop→PathP (λ j. (err j).lo ≤ℤ lo j) (λ j. int_prop (err j).lo (lo j)) a.low_ordered b.low_ordered i;
  high_ordered = is_prop→PathP (λ j. hi j ≤ℤ (err j).hi) (λ j. int_prop (hi j) (err j).hi) a.high_ordered b.high_ordered i;
}

same_sat : (a b : Sat) → a.system ≡ b.system → a.number ≡ b.number → a ≡ b
same_sat a b p q = λ i. record { system = p i; number = q i }

same_skip : (a b : Skip) → a.number ≡ b.number → a.field ≡ b.field → a ≡ b
same_skip a b p q = λ i. record { number = p i; field = q i }

same_pos : (a b : Pos) → a.x ≡ b.x → a.y ≡ b.y → a.z ≡ b.z → a ≡ b
same_pos a b p q r = λ i. record { x = p i; y = q i; z = r i }

same_corners : (a b : Corners) → a.lo ≡ b.lo → a.hi ≡ b.hi → a ≡ b
same_corners a b p q = λ i. record { lo = p i; hi = q i }

same_header : (a b : Header) → a.index ≡ b.index → a.ps ≡ b.ps → a.n ≡ b.n → a ≡ b
same_header a b p q r = λ i. record { index = p i; ps = q i; n = r i }

-- ---- numbers

time_same : (m n : ℤ) → IsTime m → IsTime n → signed_decimal m ≡ signed_decimal n → m ≡ n
time_same m n f g e =
    let a = time_count m f in
    let b = time_count n g in
    a.is ∙ ap pos (count_same 3999999999999999999999 a.count b.count (lit< tt) a.within b.within (sym (ap signed_decimal a.is) ∙ e ∙ ap signed_decimal b.is)) ∙ sym b.is

-- ---- words

span_from : (bound : ℕ) (a b : Span) → bound < 2 ^ 63 → IsSpanWithin bound a → IsSpanWithin bound b
    → signed_decimal a.lo ≡ signed_decimal b.lo → signed_decimal a.hi ≡ signed_decimal b.hi → a ≡ b
span_from bound a b small f g p q = same_span a b (one_number bound a.lo b.lo small f.0 g.0 p) (one_number bound a.hi b.hi small f.1 g.1 q)

pos_from : (bound : ℕ) (a b : Pos) → bound < 2 ^ 63 → IsPosWithin bound a → IsPosWithin bound b
    → signed_decimal a.x ≡ signed_decimal b.x → signed_decimal a.y ≡ signed_decimal b.y
    → signed_decimal a.z ≡ signed_decimal b.z → a ≡ b
pos_from bound a b small f g p q r = same_pos a b (one_number bound a.x b.x small f.0 g.0 p) (one_number bound a.y b.y small f.1 g.1 q) (one_number bound a.z b.z small f.2 g.2 r)

sat_from : (a b : Sat) → IsNamed a → IsNamed b
    → get_or (sat_words a) 0 [] ≡ get_or (sat_words b) 0 [] → a ≡ b
sat_from a b f g e =
    let tens : 48 + a.number / 10 ≡ 48 + b.number / 10 = ap (λ (w : List ℕ). get_or w 1 0) e in
    let ones : 48 + a.number % 10 ≡ 48 + b.number % 10 = ap (λ (w : List ℕ). get_or w 2 0) e in
    let system : a.system ≡ b.system = ap (λ (w : List ℕ). get_or w 0 0) e in
    same_sat a b system (omega arith)

row_from : (a b : Row) → RowFits a → RowFits b → row_words a ≡ row_words b → a ≡ b
row_from a b f g e =
    let w : (k : ℕ) → get_or (row_words a) k [] ≡ get_or (row_words b) k [] = λ k. at_index k (row_words a) (row_words b) e in
    let err = span_from 1000000000000 a.err b.err (lit< tt) a.err_within b.err_within (w 9) (w 10) in
    let sure = ends_from a.err b.err a.sure_lo a.sure_hi b.sure_lo b.sure_hi err a.sure_within b.sure_within (ap (drop 11) e) in
    same_row a b (sat_from a.sat b.sat f g (w 0))
    (span_from 60000000000000 a.x b.x (lit< tt) a.x_within b.x_within (w 1) (w 2))
    (span_from 60000000000000 a.y b.y (lit< tt) a.y_within b.y_within (w 3) (w 4))
    (span_from 60000000000000 a.z b.z (lit< tt) a.z_within b.z_within (w 5) (w 6))
    (span_from 60000000000000 a.range b.range (lit< tt) a.range_within b.range_within (w 7) (w 8))
    err sure.lo_same sure.hi_same

optional_from : (m n : ℕ) → m ≤ 20 → n ≤ 20 → optional_words m ≡ optional_words n → m ≡ n
optional_from zero zero f g e = refl
optional_from zero (suc n) f g e = cc
optional_from (suc m) zero f g e = cc
optional_from (suc m) (suc n) f g e = count_same 20 (suc m) (suc n) (lit< tt) f g (at_index 0 _ _ e)

skip_bounds : (s : Skip) → SkipFits s → (s.number ≤ 9) × (s.field ≤ 20)
skip_bounds s (inl (inl few, none)) = (omega (arith, few.1), omega (arith, none))
skip_bounds s (inl (inr more, none)) = (more.1, omega (arith, none))
skip_bounds s (inr field) = (omega (arith, field.0), field.1.1)

skip_from : (a b : Skip) → SkipFits a → SkipFits b → skip_words a ≡ skip_words b → a ≡ b
skip_from a b f g e =
    let x = skip_bounds a f in
    let y = skip_bounds b g in
    let rest : optional_words a.field ≡ optional_words b.field = cc in
    same_skip a b (count_same 9 a.number b.number (lit< tt) x.0 y.0 (at_index 0 _ _ e)) (optional_from a.field b.field x.1 y.1 rest)

entry_from : (a b : SatEntry) → EntryFits a → EntryFits b → entry_name a ≡ entry_name b
    → entry_words a ≡ entry_words b → a ≡ b
entry_from (entry.Row r) (entry.Row s) f g name e = ap entry.Row (row_from r s f g e)
entry_from (entry.Row r) (entry.Skipped sat skip) f g name e = cc
entry_from (entry.Skipped sat skip) (entry.Row r) f g name e = cc
entry_from (entry.Skipped sat skip) (entry.Skipped other why) f g name e =
    let satellite : sat ≡ other = sat_from sat other f.0 g.0 (at_index 0 _ _ e) in
    let rest : skip_words skip ≡ skip_words why = cc in
    let same = skip_from skip why f.1 g.1 rest in
    cc

limits_from : (a b : Limits) → limits_words a ≡ limits_words b → a ≡ b
limits_from a b e =
    same_limits a b (count_same 8 a.outliers b.outliers (lit< tt) a.few_outliers b.few_outliers (at_index 0 _ _ e))
    (count_same 200000 a.bisections b.bisections (lit< tt) a.few_bisections b.few_bisections (at_index 1 _ _ e))
    (one_number 10000000000 a.width b.width (lit< tt) (record { low = omega (arith, ints, a.wide); high = a.narrow }) (record { low = omega (arith, ints, b.wide); high = b.narrow }) (at_index 2 _ _ e))

header_from : (a b : Header) → HeaderFits a → HeaderFits b → header_words a ≡ header_words b → a ≡ b
header_from a b f g e =
    same_header a b (count_same 200000 a.index b.index (lit< tt) f.index.1 g.index.1 (at_index 0 _ _ e)) (time_same a.ps b.ps f.ps g.ps (at_index 1 _ _ e))
    (count_same 64 a.n b.n (lit< tt) f.n.1 g.n.1 (at_index 2 _ _ e))

corners_from : (a b : Corners) → CornersFit a → CornersFit b → root_words a ≡ root_words b → a ≡ b
corners_from a b f g e =
    same_corners a b (pos_from 10000000000000 a.lo b.lo (lit< tt) f.lo_within g.lo_within (at_index 0 _ _ e) (at_index 1 _ _ e) (at_index 2 _ _ e))
    (pos_from 10000000000000 a.hi b.hi (lit< tt) f.hi_within g.hi_within (at_index 3 _ _ e) (at_index 4 _ _ e) (at_index 5 _ _ e))

-- ---- lines

-- the kinds of lines, numbered, by their names
abbrev kind : LineName → ℕ
kind name.Gpscover = 0
kind name.Rules = 1
kind name.Few = 2
kind name.Epoch = 3
kind name.Sat = 4
kind name.Skip = 4
kind name.Root = 5
kind (name.Step n) = 6
kind name.Renew = 7
kind name.Done = 8
kind name.Bound = 9
kind name.By = 10

abbrev kind_of : LogLine → ℕ
kind_of (line.Version version) = 0
kind_of (line.Rules r) = 1
kind_of (line.Few h) = 2
kind_of (line.Epoch h) = 3
kind_of (line.Sat e) = 4
kind_of (line.Root c) = 5
kind_of (line.Step s) = 6
kind_of (line.Renew c) = 7
kind_of (line.Done n) = 8
kind_of (line.Bound half sums) = 9
kind_of (line.By sum) = 10

kind_named : (l : LogLine) → kind (name_of l) ≡ kind_of l
kind_named (line.Version version) = refl
kind_named (line.Rules r) = refl
kind_named (line.Few h) = refl
kind_named (line.Epoch h) = refl
kind_named (line.Sat (entry.Row r)) = refl
kind_named (line.Sat (entry.Skipped sat skip)) = refl
kind_named (line.Root c) = refl
kind_named (line.Step s) = refl
kind_named (line.Renew c) = refl
kind_named (line.Done n) = refl
kind_named (line.Bound half sums) = refl
kind_named (line.By sum) = refl

same_kind : (l m : LogLine) → name_of l ≡ name_of m → kind_of l ≡ kind_of m
same_kind l m name = sym (kind_named l) ∙ ap kind name ∙ kind_named m

bound_from : (a b : BoundHead) → bound_words a ≡ bound_words b
    → line.Bound a.half a.sums ≡ line.Bound b.half b.sums
bound_from a b e = ap (λ (h : BoundHead). line.Bound h.half h.sums) (one_head a b e)

line_from : (l m : LogLine) → LineFits l → LineFits m → name_of l ≡ name_of m → fields l ≡ fields m
    → l ≡ m
line_from (line.Version m) (line.Version n) f g name e = ap line.Version (count_same 4 m n (lit< tt) f.1 g.1 (at_index 0 _ _ e))
line_from (line.Rules r) (line.Rules s) f g name e = ap line.Rules (limits_from r s e)
line_from (line.Few h) (line.Few k) f g name e = ap line.Few (header_from h k f g e)
line_from (line.Epoch h) (line.Epoch k) f g name e = ap line.Epoch (header_from h k f g e)
line_from (line.Sat x) (line.Sat y) f g name e = ap line.Sat (entry_from x y f g name e)
line_from (line.Root c) (line.Root d) f g name e = ap line.Root (corners_from c d f g e)
line_from (line.Step s) (line.Step t) f g name e = let kind : step_name s ≡ step_name t = cc in ap line.Step (step_from s t f g kind e)
line_from (line.Renew c) (line.Renew d) f g name e = ap line.Renew (corners_from c d f g e)
line_from (line.Done m) (line.Done n) f g name e = ap line.Done (count_same 200000 m n (lit< tt) f.1 g.1 (at_index 0 _ _ e))
line_from (line.Bound h m) (line.Bound k n) f g name e = bound_from (bound_head h m f) (bound_head k n g) e
line_from (line.By s) (line.By t) f g name e = ap line.By (one_sum s t e)
line_from l m f g name e = absurd (omega (arith, same_kind l m name))

-- where the words are of no bound, no line of one has them
pub no_bound : (words : List (List ℕ)) (l : LogLine) → LineFits l → name_of l ≡ name.Bound → words ≡ fields l
    → ((h : BoundHead) → words ≡ bound_words h → ⊥) → ⊥
no_bound words (line.Bound half sums) fits named told none = none (bound_head half sums fits) told
no_bound words l fits named told none = absurd (omega (arith, kind_named l, ap kind named))

-- lines that fit and have the same words are one
pub same_words : (l m : LogLine) → LineFits l → LineFits m → line_words l ≡ line_words m → l ≡ m
same_words l m f g e =
    let rest : fields l ≡ fields m = ap (drop 1) e in
    line_from l m f g (same_name (name_of l) (name_of m) (ap head_of e)) rest

-- lines that lead somewhere fit
pub all_fit : (at to : Place) (lines : List LogLine) → Leads at lines to
    → AllByRecursion LineFits lines
all_fit at to [] leads = tt
all_fit at to (l ∷ lines) leads = (leads.0, all_fit leads.1 to lines leads.3)

-- lines that fit and have the same text are the same
pub same_lines : (lines others : List LogLine) → AllByRecursion LineFits lines
    → AllByRecursion LineFits others → text_of lines ≡ text_of others → lines ≡ others
same_lines [] [] f g e = refl
same_lines [] (m ∷ others) f g e = absurd (line_some m [] (text_of others) e refl)
same_lines (l ∷ lines) [] f g e = absurd (line_some l [] (text_of lines) (sym e) refl)
same_lines (l ∷ lines) (m ∷ others) f g e =
    let first = same_line l m (text_of lines) (text_of others) f.0 g.0 e in
    let one = same_words l m f.0 g.0 first.0 in
    let later = same_lines lines others f.1 g.1 first.1 in
    cc
