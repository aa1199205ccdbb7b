-- The lines of an observation file give one answer only.
use Rattle.std.proofs.Common.{◌≡◌, ℕ, zero, suc, ◌+◌, Bool, true, false, List, [], ◌∷◌, length, Option, None, Some, refl, sym, ap, inl, inr, ◌∙◌, arith, IfOk, IfErr, Result, Ok, Err}
use Rattle.std.specs.Prelude.{ℤ, pos, neg_ℤ, ◌+ℤ◌, ◌<ℤ◌, ◌≤ℤ◌}
use Rattle.std.proofs.lemmas.Int.{ints}
use Rattle.std.proofs.lemmas.Option.{same_Some}
use Rattle.exact_decimal.specs.NumberFields.{AreBlanks, IsFixed}
use Rattle.exact_decimal.specs.Units.{denominator}
use Rattle.exact_decimal.specs.declared.decimal.Decimal.{Decimal}
use Rattle.exact_decimal.specs.declared.unit.Unit.TheVariants.{Length}
use Rattle.exact_decimal.proofs.Answers.{fixed_answer, fixed_blank}
use Rattle.exact_decimal.proofs.Units.{power_some}
use Rattle.grid_model.specs.Rounding.{IsFloor}
use Rattle.grid_model.specs.declared.boxes.Pos.{Pos}
use Rattle.gnss_model.specs.declared.satellites.Signal.{Signal}
use Rattle.rinex_obs.specs.declared.sought.Sought.{Sought}
use Rattle.gnss_model.specs.declared.satellites.Signal.TheVariants.{Single, Dual}
use Rattle.grid_model.proofs.RoundingLemmas.{floor_only}
use Rattle.rinex_text.specs.Bodies.{counted}
use Rattle.rinex_text.specs.Headers.{Behind}
use Rattle.rinex_text.specs.Lines.{TextLine, lines_of}
use Rattle.rinex_text.specs.Reading.{Refuses, GivesRefusal}
use Rattle.rinex_text.specs.declared.fault.ReadError.{ReadError}
use Rattle.rinex_text.specs.declared.fault.ReadError.TheVariants.{Refused, NoMemory}
use Rattle.rinex_text.specs.declared.fault.Refusal.{Refusal}
use Rattle.rinex_text.proofs.FieldLemmas.{same_count}
use Rattle.rinex_text.proofs.OnlyLemmas.{IsOnly, test_only, where_only, read_only, ok_same, err_same, not_both, then_only, gives_only, line_only, number_only, first_only, version_by_only}
use Rattle.rinex_obs.specs.Types.{Code, Types, codes_from, more_codes, types_line, galileo_line}
use Rattle.rinex_obs.specs.Header.{IsFixedField, Coordinates, position_line, IsCoordinate, IsPoint, IsPosition, Header, types_behind, header_line, CodePlaces, ArePlaces, MayBePlaces, Wanted, AreWanted, header_end, header_lines, are_both, have_both}
use Rattle.rinex_obs.specs.Epochs.{IsSeconds, IsTag, IsLineCount, in_order, head_line, IsObserved, IsSecond, ArePlacesOf, satellite_line, satellites_from, event_line, event_from, Observed, block_from, time_before, epochs_from}
use Rattle.rinex_obs.specs.Files.{Observations, obs_file_by, IsObsFileBy, IsFirstFaultBy}
use Rattle.rinex_obs.specs.Reading.{observations_of, GivesObservations}
use Rattle.rinex_obs.specs.declared.head.Head.{Head}
use Rattle.rinex_obs.specs.declared.head.Head.TheVariants.{Epoch, Event}
use Rattle.rinex_obs.specs.declared.obs.Obs.{Obs}
use Rattle.rinex_obs.specs.declared.obs.SatObs.{SatObs}
use Rattle.grid_model.proofs.PointLemmas.{same_pos as same_point}

-- ---- types

codes_only : (text : List ℕ) (place left : ℕ) (codes : List Code)
    → IsOnly (codes_from text place left codes)
codes_only text place zero codes x y a b = a ∙ sym b
codes_only text place (suc left) codes x y a b = test_only _ _ _ (codes_only text (place + 1) left _) x y a b

more_only : (text : List ℕ) (types : Types) → IsOnly (more_codes text types)
more_only text types = then_only _ _ (codes_only text 0 _ types.codes) (λ codes. gives_only _)

types_only : (letter : ℕ) (types : Option Types) (text : List ℕ)
    → IsOnly (types_line letter types text)
types_only letter None text =
    where_only _ _ _
    (then_only _ _ (read_only _ _ _ (same_count _) (λ count. test_only _ _ _ (more_only text (record { count = count; codes = [] })))) (λ types. gives_only _))
    (gives_only _)
types_only letter (Some types) text =
    where_only _ _ _
    (test_only _ _ _ (then_only _ _ (more_only text types) (λ more. gives_only _)))
    (test_only _ _ _ (gives_only _))

galileo_only : (both : Bool) (types : Option Types) (text : List ℕ)
    → IsOnly (galileo_line both types text)
galileo_only false types text = gives_only types
galileo_only true types text = types_only 69 types text

-- ---- fields

same_fixed : (field : List ℕ) (number other : Decimal) → IsFixed field number.digits number.ten
    → IsFixed field other.digits other.ten → number ≡ other
same_fixed field number other a b =
    let first = (fixed_answer field number.digits number.ten).1 a in
    let second = (fixed_answer field other.digits other.ten).1 b in
    same_Some number other (ok_same (Some number) (Some other) (sym first ∙ second))

not_blank : (field : List ℕ) (digits ten : ℤ) → AreBlanks field → IsFixed field digits ten → ⊥
not_blank field digits ten blank a =
    let none = (fixed_blank field).1 blank in
    let some = (fixed_answer field digits ten).1 a in
    cc

fixed_only : (field : List ℕ) → IsOnly (IsFixedField field)
fixed_only field None None a b = refl
fixed_only field None (Some number) a b = absurd (not_blank field number.digits number.ten a b)
fixed_only field (Some number) None a b = absurd (not_blank field number.digits number.ten b a)
fixed_only field (Some number) (Some other) a b = ap (λ (d : Decimal). Some d) (same_fixed field number other a b)

-- a number of the field is zero where the field has zero
is_zero : (field : List ℕ) (ten : ℤ) (number : Decimal) → IsFixed field (pos 0) ten
    → IsFixed field number.digits number.ten → number.digits ≡ pos 0
is_zero field ten number a b = ap (λ (d : Decimal). d.digits) (same_fixed field number (record { digits = pos 0; ten = ten }) b a)

observed_only : (field : List ℕ) → IsOnly (IsObserved field)
observed_only field None None a b = refl
observed_only field None (Some number) a b = elim a [
  | inl blank ↦ absurd (not_blank field number.digits number.ten blank b.0)
  | inr none ↦ absurd (b.1 (is_zero field none.0 number none.1 b.0))
]
observed_only field (Some number) None a b = elim b [
  | inl blank ↦ absurd (not_blank field number.digits number.ten blank a.0)
  | inr none ↦ absurd (a.1 (is_zero field none.0 number none.1 a.0))
]
observed_only field (Some number) (Some other) a b = ap (λ (d : Decimal). Some d) (same_fixed field number other a.0 b.0)

second_only : (text : List ℕ) (place : Option ℕ) → IsOnly (IsSecond text place)
second_only text None None None a b = refl
second_only text None None (Some number) a b = absurd b
second_only text None (Some number) y a b = absurd a
second_only text (Some place) x y a b = observed_only _ x y a b

-- ---- the header

coordinate_only : (number : Decimal) → IsOnly (IsCoordinate number)
coordinate_only number q r a b =
    let den : pos 0 <ℤ pos (denominator number.ten Length) = omega (arith, ints, power_some (denominator number.ten Length)) in
    floor_only _ _ q r den a.floor b.floor

point_only : (coordinates : Coordinates) → IsOnly (IsPoint coordinates)
point_only coordinates p q a b = same_point _ _ _ _ _ _ (coordinate_only _ p.x q.x a.x b.x) (coordinate_only _ p.y q.y a.y b.y) (coordinate_only _ p.z q.z a.z b.z)

position_only : (wanted : Bool) (coordinates : Option Coordinates)
    → IsOnly (IsPosition wanted coordinates)
position_only false coordinates None None a b = refl
position_only false coordinates None (Some q) a b = absurd b
position_only false coordinates (Some p) y a b = absurd a
position_only true None x y a b = absurd a
position_only true (Some coordinates) None y a b = absurd a
position_only true (Some coordinates) (Some p) None a b = absurd b
position_only true (Some coordinates) (Some p) (Some q) a b = ap (λ (point : Pos). Some point) (point_only coordinates p q a b)

same_places : (m n : ℕ) (p q : Option ℕ) → m ≡ n → p ≡ q
    → ◌≡◌ {A = CodePlaces} (record { first = m; second = p }) (record { first = n; second = q })
same_places m n p q e f = rw (e, f) refl

places_only : (signal : Signal) (codes : List Code) → IsOnly (ArePlaces signal codes)
places_only (Single code) codes x y a b = same_places _ _ _ _ (same_Some x.first y.first (sym a.0 ∙ b.0)) (a.1 ∙ sym b.1)
places_only (Dual first second) codes x y a b = same_places _ _ _ _ (same_Some x.first y.first (sym a.0 ∙ b.0)) (sym a.1 ∙ b.1)

may_be_only : (signal : Option Signal) (codes : List Code) → IsOnly (MayBePlaces signal codes)
may_be_only None codes x y a b = a ∙ sym b
may_be_only (Some signal) codes None y a b = absurd a
may_be_only (Some signal) codes (Some x) None a b = absurd b
may_be_only (Some signal) codes (Some x) (Some y) a b = ap (λ (p : CodePlaces). Some p) (places_only signal codes x y a b)

same_wanted : (m n : CodePlaces) (p q : Option CodePlaces) → m ≡ n → p ≡ q
    → ◌≡◌ {A = Wanted} (record { gps = m; galileo = p }) (record { gps = n; galileo = q })
same_wanted m n p q e f = rw (e, f) refl

wanted_only : (sought : Sought) (gps galileo : List Code) → IsOnly (AreWanted sought gps galileo)
wanted_only sought gps galileo x y a b =
    same_wanted _ _ _ _ (places_only sought.gps gps x.gps y.gps a.of_gps b.of_gps) (may_be_only sought.galileo galileo x.galileo y.galileo a.of_galileo b.of_galileo)

position_line_only : (text : List ℕ) → IsOnly (position_line text)
position_line_only text =
    read_only _ _ _ (fixed_only _) (λ x. read_only _ _ _ (fixed_only _) (λ y. read_only _ _ _ (fixed_only _) (λ z. gives_only _)))

behind_only : (both : Bool) (header : Header) (text : List ℕ)
    → IsOnly (types_behind both header text)
behind_only both header text =
    then_only _ _ (types_only 71 header.gps text) (λ gps. then_only _ _ (galileo_only both header.galileo text) (λ galileo. gives_only _))

header_line_only : (both position : Bool) (header : Header) (line : TextLine)
    → IsOnly (header_line both position header line)
header_line_only both position header line =
    where_only _ _ _ (behind_only both header line.text)
    (where_only _ _ _ (test_only _ _ _ (gives_only _))
    (where_only _ _ _ (test_only _ _ _ (gives_only _))
    (where_only _ _ _ (then_only _ _ (position_line_only line.text) (λ coordinates. gives_only _)) (gives_only _))))

header_end_only : (sought : Sought) (position : Bool) (header : Header)
    → IsOnly (header_end sought position header)
header_end_only sought position header =
    test_only _ _ _ (read_only _ _ _ (wanted_only sought _ _) (λ wanted. read_only _ _ _ (position_only position header.position) (λ point. gives_only _)))

header_lines_only : (sought : Sought) (position : Bool) (header : Header) (number : ℕ) (lines : List TextLine)
    → IsOnly (header_lines sought position header number lines)
header_lines_only sought position header number [] x y a b = a ∙ sym b
header_lines_only sought position header number (line ∷ more) x y a b =
    test_only _ _ _
    (where_only _ _ _
    (line_only _ _ _ (header_end_only sought position header) (λ end. gives_only _))
    (line_only _ _ _ (header_line_only (are_both sought) position header line) (λ next. header_lines_only sought position next (number + 1) more)))
    x y a b

-- ---- epochs

pub seconds_only : (field : List ℕ) → IsOnly (IsSeconds field)
seconds_only field m n a b =
    let same = same_fixed field (record { digits = pos a.digits; ten = neg_ℤ (pos a.decimals) }) (record { digits = pos b.digits; ten = neg_ℤ (pos b.decimals) }) a.number b.number in
    let e : a.digits ≡ b.digits = omega (arith, ints, ap (λ (d : Decimal). d.digits) same) in
    let f : a.decimals ≡ b.decimals = omega (arith, ints, ap (λ (d : Decimal). d.ten) same) in
    a.value ∙ (rw (e, f) (sym b.value))

tag_only : (text : List ℕ) → IsOnly (IsTag text)
tag_only text s t a b =
    let ey = same_count _ _ _ a.year_is b.year_is in
    let emo = same_count _ _ _ a.month_is b.month_is in
    let ed = same_count _ _ _ a.day_is b.day_is in
    let eh = same_count _ _ _ a.hour_is b.hour_is in
    let emi = same_count _ _ _ a.minute_is b.minute_is in
    let es = seconds_only _ _ _ a.seconds_are b.seconds_are in
    a.value ∙ (rw (ey, emo, ed, eh, emi, es) (sym b.value))

lines_only : (field : List ℕ) → IsOnly (IsLineCount field)
lines_only field m n a b = elim a [
  | inl (blank, none) ↦ elim b [
    | inl (also, other) ↦ none ∙ sym other
    | inr (other, count) ↦ absurd (other blank)
  ]
  | inr (other, count) ↦ elim b [
    | inl (blank, none) ↦ absurd (other blank)
    | inr (also, number) ↦ same_count field m n count number
  ]
]

order_only : (before : Option ℤ) (tag : ℤ) (lines : ℕ) → IsOnly (in_order before tag lines)
order_only None tag lines = gives_only _
order_only (Some before) tag lines = test_only _ _ _ (gives_only _)

head_only : (count : ℕ) (before : Option ℤ) (line : TextLine)
    → IsOnly (head_line count before line)
head_only count before line =
    test_only _ _ _ (test_only _ _ _ (test_only _ _ _ (test_only _ _ _ (read_only _ _ _ (lines_only _) (λ lines.
    where_only _ _ _ (read_only _ _ _ (tag_only line.text) (λ tag. test_only _ _ _ (order_only before tag lines))) (gives_only _))))))

places_of_only : (wanted : Wanted) (letter : ℕ) → IsOnly (ArePlacesOf wanted letter)
places_of_only wanted letter x y (inl (g, a)) (inl (h, b)) = a ∙ sym b
places_of_only wanted letter x y (inl (g, a)) (inr (h, b)) = absurd (omega (arith, g, h))
places_of_only wanted letter x y (inr (g, a)) (inl (h, b)) = absurd (omega (arith, g, h))
places_of_only wanted letter x y (inr (g, a)) (inr (h, b)) = same_Some x y (sym a ∙ b)

satellite_only : (wanted : Wanted) (sats : List SatObs) (line : TextLine)
    → IsOnly (satellite_line wanted sats line)
satellite_only wanted sats line =
    test_only _ _ _ (where_only _ _ _ (gives_only _) (test_only _ _ _ (read_only _ _ _ (places_of_only wanted _) (λ places. read_only _ _ _ (number_only line.text) (λ number.
    test_only _ _ _ (test_only _ _ _ (read_only _ _ _ (observed_only _) (λ first. read_only _ _ _ (second_only line.text _) (λ second. gives_only _)))))))))

satellites_only : (wanted : Wanted) (left : ℕ) (sats : List SatObs) (from : Behind)
    → IsOnly (satellites_from wanted left sats from)
satellites_only wanted zero sats from x y a b = a ∙ sym b
satellites_only wanted (suc left) sats from x y a b =
    first_only _ _ (satellite_only wanted sats) (λ more next. satellites_only wanted left more next) from.number from.lines x y a b

event_line_only : (both labelled : Bool) (line : TextLine) → IsOnly (event_line both labelled line)
event_line_only both labelled line = test_only _ _ _ (where_only _ _ _ (test_only _ _ _ (test_only _ _ _ (gives_only tt))) (gives_only tt))

event_only : (both labelled : Bool) (left : ℕ) (from : Behind)
    → IsOnly (event_from both labelled left from)
event_only both labelled zero from x y a b = a ∙ sym b
event_only both labelled (suc left) from x y a b = first_only _ _ (event_line_only both labelled) (λ none next. event_only both labelled left next) from.number from.lines x y a b

block_only : (wanted : Wanted) (count : ℕ) (head : Head) (from : Behind)
    → IsOnly (block_from wanted count head from)
block_only wanted count (Epoch tag lines) from = then_only _ _ (satellites_only wanted lines [] from) (λ sats. gives_only _)
block_only wanted count (Event labelled lines) from = then_only _ _ (event_only (have_both wanted) labelled lines from) (λ none. gives_only _)

epochs_only : (rising : Bool) (wanted : Wanted) (epochs : List Observed) (number skip : ℕ) (lines : List TextLine)
    → IsOnly (epochs_from rising wanted epochs number skip lines)
epochs_only rising wanted epochs number skip [] x y a b = a ∙ sym b
epochs_only rising wanted epochs number (suc skip) (line ∷ more) x y a b = epochs_only rising wanted epochs (number + 1) skip more x y a b
epochs_only rising wanted epochs number zero (line ∷ more) x y a b =
    line_only _ _ _ (head_only (length epochs) (time_before rising epochs) line) (λ head. then_only _ _ (block_only wanted (length epochs) head _) (λ block. epochs_only rising wanted _ (number + 1) block.lines more)) x y a b

-- ---- files

pub file_only : (rising : Bool) (sought : Sought) (position : Bool) (lines : List TextLine)
    → IsOnly (obs_file_by rising sought position lines)
file_only rising sought position lines =
    then_only _ _ (version_by_only (are_both sought) 79 lines) (λ version.
    then_only _ _ (header_lines_only sought position _ version.number version.lines) (λ start.
    then_only _ _ (epochs_only rising start.wanted [] start.behind.number 0 (counted start.behind.lines)) (λ epochs. gives_only _)))

pub gives_observations : (rising : Bool) (sought : Sought) (position : Bool) (text : List ℕ) (observations : Observations) (given : Result Obs ReadError)
    → IfOk given (λ obs. IsObsFileBy rising sought position text (observations_of obs))
    → IfErr given (Refuses (obs_file_by rising sought position (lines_of text)))
    → IsObsFileBy rising sought position text observations → GivesObservations observations given
gives_observations rising sought position text observations (Ok obs) is fault file = ok_same _ _ (file_only rising sought position (lines_of text) _ _ is file)
gives_observations rising sought position text observations (Err (Refused r)) is fault file = absurd (not_both _ _ (file_only rising sought position (lines_of text) _ _ file fault))
gives_observations rising sought position text observations (Err NoMemory) is fault file = refl

pub gives_refusal : (rising : Bool) (sought : Sought) (position : Bool) (text : List ℕ) (r : Refusal) (given : Result Obs ReadError)
    → IfOk given (λ obs. IsObsFileBy rising sought position text (observations_of obs))
    → IfErr given (Refuses (obs_file_by rising sought position (lines_of text)))
    → IsFirstFaultBy rising sought position text r → GivesRefusal r given
gives_refusal rising sought position text r (Ok obs) is fault first = not_both _ _ (file_only rising sought position (lines_of text) _ _ is first)
gives_refusal rising sought position text r (Err (Refused other)) is fault first = inl (ap (λ u. Refused u) (err_same _ _ (file_only rising sought position (lines_of text) _ _ fault first)))
gives_refusal rising sought position text r (Err NoMemory) is fault first = inr refl
