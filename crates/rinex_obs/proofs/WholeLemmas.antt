-- How the lines of an observation file that is read are shared out.
use Rattle.std.proofs.Common.{◌≡◌, ℕ, zero, suc, ◌+◌, ◌≤◌, ◌∙◌, Bool, true, false, cond, List, [], ◌∷◌, ◌++◌, length, get_or, take, drop, append_assoc, refl, ap, sym, subst, inl, inr, arith, Option, None, Some, is_some, Result, Ok, Err, IfOk, ◌⊎◌}
use Rattle.std.specs.Prelude.{ℤ, nat_le, codes}
use Rattle.std.specs.List.{AllByRecursion, filter, list_all}
use Rattle.std.specs.Str.{bytes_eq}
use Rattle.std.proofs.lemmas.Bool.Decides.{nat_tests}
use Rattle.std.proofs.lemmas.Slice.Eq.{bytes_eq-Decides}
use Rattle.std.proofs.lemmas.List.{append-nil, take-append-drop, length-take-le}
use Rattle.rinex_text.specs.Bodies.{counted, is_printable}
use Rattle.rinex_text.specs.Columns.{column_of, columns_of, label_of}
use Rattle.rinex_text.specs.Counts.{IsNumber}
use Rattle.rinex_text.specs.Headers.{Behind, IsShort, IsHeaderEnd, version_line_of, version_by}
use Rattle.rinex_text.specs.Lines.{TextLine, lines_of}
use Rattle.rinex_text.specs.Whole.{OneForOne}
use Rattle.rinex_text.proofs.OnlyLemmas.{ok_same}
use Rattle.rinex_text.specs.declared.fault.ReadError.{ReadError}
use Rattle.grid_model.specs.declared.boxes.Pos.{Pos}
use Rattle.gnss_model.specs.declared.satellites.Signal.{Signal}
use Rattle.rinex_obs.specs.declared.sought.Sought.{Sought}
use Rattle.gnss_model.specs.declared.satellites.Signal.TheVariants.{Single, Dual}
use Rattle.rinex_obs.specs.Types.{Types, IsRead, is_read, types_line, galileo_line, AreComplete, codes_of}
use Rattle.rinex_obs.specs.Header.{Coordinates, position_line, IsPosition, Header, header_line, CodePlaces, ArePlaces, MayBePlaces, are_both, Wanted, have_both, AreWanted, header_end, Start, header_lines}
use Rattle.rinex_obs.specs.Epochs.{IsTag, flag_of, IsFlag, IsLineCount, ArePlacesOf, sat_on, satellite_line, satellites_from, event_line, event_from, head_line, Observed, Block, block_from, time_before, epochs_from}
use Rattle.rinex_obs.specs.Files.{Observations, unread, IsObsFileBy}
use Rattle.rinex_obs.specs.Reading.{observations_of}
use Rattle.rinex_obs.specs.Whole.{is_types_line, AreTypes, AreGalileoTypes, IsPositionLine, IsPositionOf, IsFineInHeader, IsFineInEvent, Part, lines_of_parts, IsPart, begins_epoch, is_of_read, IsSeenOn, IsEpochOf, IsWholeOf}
use Rattle.rinex_obs.specs.declared.head.Head.{Head}
use Rattle.rinex_obs.specs.declared.head.Head.TheVariants.{Epoch, Event}
use Rattle.rinex_obs.specs.declared.obs.Obs.{Obs}
use Rattle.rinex_obs.specs.declared.obs.SatObs.{SatObs}
use Rattle.rinex_obs.proofs.FactLemmas.{Give, given, on_order, on_test, on_where, on_either, on_read, on_then, on_line, on_more, has_places}
use Rattle.rinex_obs.proofs.JoinedLemmas.{Walks, AreTypesBehind, walks_first, joined, solid_walk}
use Rattle.std.proofs.lemmas.Bool.{both_ways as no_epoch}

-- ---- one for one

one_join : {X Y : Type 0} (F : X → Y → Type 0) (xs more : List X) (ys after : List Y)
    → OneForOne F xs ys → OneForOne F more after → OneForOne F (xs ++ more) (ys ++ after)
one_join F [] more [] after a b = b
one_join F [] more (y ∷ ys) after a b = absurd a
one_join F (x ∷ xs) more [] after a b = absurd a
one_join F (x ∷ xs) more (y ∷ ys) after a b = (a.0, one_join F xs more ys after a.1 b)

filter_first : {X : Type 0} (p : X → Bool) (x : X) (xs : List X)
    → filter p (x ∷ xs) ≡ filter p (x ∷ []) ++ filter p xs
filter_first p x xs = elim (p x) as (λ b. cond b (x ∷ filter p xs) (filter p xs) ≡ cond b (x ∷ []) [] ++ filter p xs) [
  | true ↦ refl
  | false ↦ refl
]

-- one more in front
one_first : {X Y : Type 0} (F : X → Y → Type 0) (p : X → Bool) (x : X) (xs : List X) (ys after : List Y)
    → OneForOne F (filter p (x ∷ [])) ys → OneForOne F (filter p xs) after
    → OneForOne F (filter p (x ∷ xs)) (ys ++ after)
one_first F p x xs ys after a b = subst (λ l. OneForOne F l (ys ++ after)) (sym (filter_first p x xs)) (one_join F (filter p (x ∷ [])) (filter p xs) ys after a b)

kept : {X Y : Type 0} (F : X → Y → Type 0) (b : Bool) (x : X) (y : Y) → b ≡ true → F x y
    → OneForOne F (cond b (x ∷ []) []) (y ∷ [])
kept F b x y e is = subst (λ (t : Bool). OneForOne F (cond t (x ∷ []) []) (y ∷ [])) (sym e) (is, tt)

left_out : {X Y : Type 0} (F : X → Y → Type 0) (b : Bool) (x : X) → b ≡ false
    → OneForOne {X = X} {Y = Y} F (cond b (x ∷ []) []) []
left_out {X} {Y} F b x e = subst (λ (t : Bool). OneForOne {X = X} {Y = Y} F (cond t (x ∷ []) []) []) (sym e) tt

is_letter : (both : Bool) (letter : ℕ) → IsRead both letter → is_read both letter ≡ true
is_letter false letter h = grind (arith, nat_tests)
is_letter true letter (inl h) = grind (arith, nat_tests)
is_letter true letter (inr h) = grind (arith, nat_tests)

no_letter : (both : Bool) (letter : ℕ) → (IsRead both letter → ⊥) → is_read both letter ≡ false
no_letter false letter h = grind (arith, nat_tests)
no_letter true letter h =
    let gps : letter ≡ 71 → ⊥ = λ e. h (inl e) in
    let galileo : letter ≡ 69 → ⊥ = λ e. h (inr e) in
    grind (arith, nat_tests)

low_flag : (flag : ℕ) → flag ≤ 49 → nat_le flag 49 ≡ true
low_flag flag h = grind (arith, nat_tests)

high_flag : (flag : ℕ) → (flag ≤ 49 → ⊥) → nat_le flag 49 ≡ false
high_flag flag h = grind (arith, nat_tests)

-- ---- satellites

-- the satellite of a line, or none, behind those before
record AddsOn (wanted : Wanted) (line : TextLine) (sats after : List SatObs) : Type 0 where
  short : IsShort line
  new : List SatObs
  after_is : after ≡ sats ++ new
  seen : OneForOne (IsSeenOn wanted) (filter (is_of_read (have_both wanted)) (line ∷ [])) new

adds_on : (wanted : Wanted) (sats : List SatObs) (line : TextLine)
    → Give (AddsOn wanted line sats) (satellite_line wanted sats line)
adds_on wanted sats line =
    let Meets : List SatObs → Type 0 = AddsOn wanted line sats in
    on_test Meets _ _ _ (λ short. on_where Meets _ _ _
    (λ other. given Meets sats (record { short = short; new = []; after_is = sym (append-nil sats); seen = left_out (IsSeenOn wanted) _ line (no_letter (have_both wanted) (column_of line.text 1) other.2) }))
    (on_test Meets _ _ _ (λ ascii. on_read Meets _ _ _ (λ places (own : ArePlacesOf wanted (column_of line.text 1) places). on_read Meets _ _ _ (λ number (is : IsNumber line.text number).
    on_test Meets _ _ _ (λ new. on_test Meets _ _ _ (λ room. on_read Meets _ _ _ (λ first a. on_read Meets _ _ _ (λ second b.
    let seen : SatObs = record { sat = sat_on line number; first = first; second = second } in
    let letter = is_letter (have_both wanted) (column_of line.text 1) (has_places wanted.gps wanted.galileo (column_of line.text 1) places own) in
    given Meets (sats ++ seen ∷ []) (record {
      short = short;
      new = seen ∷ [];
      after_is = refl;
      seen = kept (IsSeenOn wanted) _ line seen letter (record { printable = ascii; number = is; sat_is = refl; places = places; places_are = own; first = a; second = b });
    }))))))))))

-- those of so many lines
record AddAll (wanted : Wanted) (left : ℕ) (lines : List TextLine) (sats after : List SatObs) : Type 0 where
  enough : left ≤ length lines
  short : AllByRecursion IsShort (take left lines)
  new : List SatObs
  after_is : after ≡ sats ++ new
  seen : OneForOne (IsSeenOn wanted) (filter (is_of_read (have_both wanted)) (take left lines)) new

add_first : (wanted : Wanted) (left : ℕ) (line : TextLine) (more : List TextLine) (sats next after : List SatObs)
    → AddsOn wanted line sats next → AddAll wanted left more next after
    → AddAll wanted (suc left) (line ∷ more) sats after
add_first wanted left line more sats next after a t = record {
  enough = omega (arith, t.enough);
  short = (a.short, t.short);
  new = a.new ++ t.new;
  after_is = t.after_is ∙ (ap (λ (s : List SatObs). s ++ t.new) a.after_is ∙ append_assoc sats a.new t.new);
  seen = one_first (IsSeenOn wanted) (is_of_read (have_both wanted)) line (take left more) a.new t.new a.seen t.seen;
}

add_all : (wanted : Wanted) (left : ℕ) (sats : List SatObs) (number : ℕ) (lines : List TextLine)
    → Give (AddAll wanted left lines sats) (satellites_from wanted left sats (record { number = number; lines = lines }))
add_all wanted zero sats number lines = given (AddAll wanted zero lines sats) sats (record { enough = omega arith; short = tt; new = []; after_is = sym (append-nil sats); seen = tt })
add_all wanted (suc left) sats number [] = λ r. λ e. rw e tt
add_all wanted (suc left) sats number (line ∷ more) =
    on_line (AddAll wanted (suc left) (line ∷ more) sats) (satellite_line wanted sats line) number (λ next. satellites_from wanted left next (record { number = number + 1; lines = more }))
    (λ next is. on_more (AddAll wanted left more next) (AddAll wanted (suc left) (line ∷ more) sats) _
    (λ after t. add_first wanted left line more sats next after (adds_on wanted sats line (Ok next) is) t)
    (add_all wanted left next (number + 1) more))

-- ---- events

record Passes (both labelled : Bool) (left : ℕ) (lines : List TextLine) : Type 0 where
  enough : left ≤ length lines
  short : AllByRecursion IsShort (take left lines)
  fine : labelled ≡ true → AllByRecursion (IsFineInEvent both) (take left lines)

event_fine : (both labelled : Bool) (line : TextLine)
    → Give (λ (none : Unit {0}). labelled ≡ true → IsFineInEvent both line) (event_line both labelled line)
event_fine both labelled line =
    let Meets : Unit {0} → Type 0 = λ none. labelled ≡ true → IsFineInEvent both line in
    on_test Meets _ _ _ (λ short. on_either Meets _ _ _
    (λ looked. on_test Meets _ _ _ (λ scale. on_test Meets _ _ _ (λ types. given Meets tt (λ e. record { scale = λ label gps. scale (label, gps); types = types }))))
    (λ other. given Meets tt (λ e. absurd (other e))))

event_short : (both labelled : Bool) (line : TextLine)
    → Give (λ (none : Unit {0}). IsShort line) (event_line both labelled line)
event_short both labelled line =
    let Meets : Unit {0} → Type 0 = λ none. IsShort line in
    on_test Meets _ _ _ (λ short. on_where Meets _ _ _ (λ looked. on_test Meets _ _ _ (λ scale. on_test Meets _ _ _ (λ types. given Meets tt short))) (given Meets tt short))

passes_all : (both labelled : Bool) (left number : ℕ) (lines : List TextLine)
    → Give (λ (none : Unit {0}). Passes both labelled left lines) (event_from both labelled left (record { number = number; lines = lines }))
passes_all both labelled zero number lines = given (λ (none : Unit {0}). Passes both labelled zero lines) tt (record { enough = omega arith; short = tt; fine = λ e. tt })
passes_all both labelled (suc left) number [] = λ r. λ e. rw e tt
passes_all both labelled (suc left) number (line ∷ more) =
    on_line (λ (none : Unit {0}). Passes both labelled (suc left) (line ∷ more)) (event_line both labelled line) number (λ none. event_from both labelled left (record { number = number + 1; lines = more }))
    (λ none is. on_more (λ (none : Unit {0}). Passes both labelled left more) (λ (none : Unit {0}). Passes both labelled (suc left) (line ∷ more)) _
    (λ other t. record { enough = omega (arith, t.enough); short = (event_short both labelled line (Ok none) is, t.short); fine = λ e. (event_fine both labelled line (Ok none) is e, t.fine e) })
    (passes_all both labelled left (number + 1) more))

-- ---- the first line of a part

record IsOpening (line : TextLine) (lines : ℕ) : Type 0 where
  marked : column_of line.text 1 ≡ 62
  flag : IsFlag (flag_of line.text)
  count : IsLineCount (columns_of line.text 33 35) lines
  printable : list_all is_printable line.text ≡ true
  short : IsShort line

abbrev IsHeadOf : TextLine → Head → Type 0
IsHeadOf line (Epoch tag lines) = IsOpening line lines × (nat_le (flag_of line.text) 49 ≡ true) × IsTag line.text tag
IsHeadOf line (Event labelled lines) = IsOpening line lines × (nat_le (flag_of line.text) 49 ≡ false) × (labelled ≡ nat_le (flag_of line.text) 53)

head_of : (count : ℕ) (before : Option ℤ) (line : TextLine)
    → Give (IsHeadOf line) (head_line count before line)
head_of count before line =
    on_test (IsHeadOf line) _ _ _ (λ short. on_test (IsHeadOf line) _ _ _ (λ ascii. on_test (IsHeadOf line) _ _ _ (λ mark. on_test (IsHeadOf line) _ _ _ (λ flag.
    on_read (IsHeadOf line) _ _ _ (λ lines (is : IsLineCount (columns_of line.text 33 35) lines).
    let opening : IsOpening line lines = record { marked = mark; flag = flag; count = is; printable = ascii; short = short } in
    on_either (IsHeadOf line) _ _ _
    (λ low. on_read (IsHeadOf line) _ _ _ (λ tag (time : IsTag line.text tag). on_test (IsHeadOf line) _ _ _ (λ few. on_order (IsHeadOf line) before tag lines (opening, low_flag (flag_of line.text) low, time))))
    (λ high. given (IsHeadOf line) (Event _ lines) (opening, high_flag (flag_of line.text) high, refl)))))))

-- ---- parts

record IsBlockOf (wanted : Wanted) (line : TextLine) (more : List TextLine) (block : Block) : Type 0 where
  part : IsPart (have_both wanted) (record { head = line; lines = take block.lines more })
  epochs : OneForOne (IsEpochOf wanted) (filter begins_epoch (record { head = line; lines = take block.lines more } ∷ [])) block.epochs

is_part : (both : Bool) (line : TextLine) (lines : ℕ) (more : List TextLine) → IsOpening line lines
    → lines ≤ length more → AllByRecursion IsShort (take lines more)
    → (nat_le (flag_of line.text) 49 ≡ false → nat_le (flag_of line.text) 53 ≡ true → AllByRecursion (IsFineInEvent both) (take lines more))
    → IsPart both (record { head = line; lines = take lines more })
is_part both line lines more opening enough short event = record {
  marked = opening.marked;
  flag = opening.flag;
  count = subst (IsLineCount (columns_of line.text 33 35)) (sym (length-take-le lines more enough)) opening.count;
  printable = opening.printable;
  short = (opening.short, short);
  event = event;
}

block_of : (wanted : Wanted) (count : ℕ) (line : TextLine) (head : Head) (number : ℕ) (more : List TextLine)
    → IsHeadOf line head
    → Give (IsBlockOf wanted line more) (block_from wanted count head (record { number = number; lines = more }))
block_of wanted count line (Epoch tag lines) number more is =
    on_then (IsBlockOf wanted line more) (satellites_from wanted lines [] (record { number = number; lines = more })) _ (λ sats l.
    let all = add_all wanted lines [] number more (Ok sats) l in
    let epoch : Observed = record { index = count + 1; tag = tag; sats = sats } in
    given (IsBlockOf wanted line more) (record { epochs = epoch ∷ []; lines = lines }) (record {
      part = is_part (have_both wanted) line lines more is.0 all.enough all.short (λ high looked. absurd (no_epoch _ high is.1));
      epochs = kept (IsEpochOf wanted) _ (record { head = line; lines = take lines more }) epoch is.1
          (record { tag = is.2; sats = subst (OneForOne (IsSeenOn wanted) (filter (is_of_read (have_both wanted)) (take lines more))) (sym all.after_is) all.seen });
    }))
block_of wanted count line (Event labelled lines) number more is =
    on_then (IsBlockOf wanted line more) (event_from (have_both wanted) labelled lines (record { number = number; lines = more })) _ (λ none l.
    let all = passes_all (have_both wanted) labelled lines number more (Ok none) l in
    given (IsBlockOf wanted line more) (record { epochs = []; lines = lines }) (record {
      part = is_part (have_both wanted) line lines more is.0 all.enough all.short (λ high looked. all.fine (is.2 ∙ looked));
      epochs = left_out (IsEpochOf wanted) _ (record { head = line; lines = take lines more }) is.1;
    }))

-- behind so many lines that were read, and epochs before
record AreShared (wanted : Wanted) (skip : ℕ) (lines : List TextLine) (epochs after : List Observed) : Type 0 where
  parts : List Part
  spelled : drop skip lines ≡ lines_of_parts parts
  are_parts : AllByRecursion (IsPart (have_both wanted)) parts
  new : List Observed
  after_is : after ≡ epochs ++ new
  epochs_are : OneForOne (IsEpochOf wanted) (filter begins_epoch parts) new

shared_first : (wanted : Wanted) (line : TextLine) (more : List TextLine) (block : Block) (epochs after : List Observed)
    → IsBlockOf wanted line more block
    → AreShared wanted block.lines more (epochs ++ block.epochs) after
    → AreShared wanted zero (line ∷ more) epochs after
shared_first wanted line more block epochs after b s =
    let part : Part = record { head = line; lines = take block.lines more } in
    record {
      parts = part ∷ s.parts;
      spelled = ap (λ (l : List TextLine). line ∷ l) (sym (take-append-drop block.lines more) ∙ ap (λ (l : List TextLine). take block.lines more ++ l) s.spelled);
      are_parts = (b.part, s.are_parts);
      new = block.epochs ++ s.new;
      after_is = s.after_is ∙ append_assoc epochs block.epochs s.new;
      epochs_are = one_first (IsEpochOf wanted) begins_epoch part s.parts block.epochs s.new b.epochs s.epochs_are;
    }

no_more : (wanted : Wanted) (epochs : List Observed) → AreShared wanted zero [] epochs epochs
no_more wanted epochs = record { parts = []; spelled = refl; are_parts = tt; new = []; after_is = sym (append-nil epochs); epochs_are = tt }

shared : (rising : Bool) (wanted : Wanted) (epochs : List Observed) (number skip : ℕ) (lines : List TextLine)
    → Give (AreShared wanted skip lines epochs) (epochs_from rising wanted epochs number skip lines)
shared rising wanted epochs number zero [] = given (AreShared wanted zero [] epochs) epochs (no_more wanted epochs)
shared rising wanted epochs number (suc skip) [] = given (AreShared wanted (suc skip) [] epochs) epochs (record { parts = []; spelled = refl; are_parts = tt; new = []; after_is = sym (append-nil epochs); epochs_are = tt })
shared rising wanted epochs number (suc skip) (line ∷ more) =
    on_more (AreShared wanted skip more epochs) (AreShared wanted (suc skip) (line ∷ more) epochs) _
    (λ after s. record { parts = s.parts; spelled = s.spelled; are_parts = s.are_parts; new = s.new; after_is = s.after_is; epochs_are = s.epochs_are })
    (shared rising wanted epochs (number + 1) skip more)
shared rising wanted epochs number zero (line ∷ more) =
    let Meets : List Observed → Type 0 = AreShared wanted zero (line ∷ more) epochs in
    on_line Meets (head_line (length epochs) (time_before rising epochs) line) number _ (λ head is. on_then Meets (block_from wanted (length epochs) head (record { number = number + 1; lines = more })) _ (λ block l.
    on_more (AreShared wanted block.lines more (epochs ++ block.epochs)) Meets _
    (λ after s. shared_first wanted line more block epochs after (block_of wanted (length epochs) line head (number + 1) more (head_of (length epochs) (time_before rising epochs) line (Ok head) is) (Ok block) l) s)
    (shared rising wanted (epochs ++ block.epochs) (number + 1) block.lines more)))

-- ---- the position

-- what is known behind some lines, from what was known before them: what the last of these lines says
record IsLast (header : List TextLine) (after : Option Coordinates) : Type 0 where
  before : List TextLine
  line : TextLine
  behind : List TextLine
  spelled : header ≡ before ++ line ∷ behind
  labelled : IsPositionLine line
  last : AllByRecursion (λ next. IsPositionLine next → ⊥) behind
  are : position_line line.text (Ok after)

abbrev IsKnown : List TextLine → Option Coordinates → Option Coordinates → Type 0
IsKnown header before after = (AllByRecursion (λ next. IsPositionLine next → ⊥) header × (after ≡ before)) ⊎ IsLast header after

abbrev IsKnownBehind : TextLine → Option Coordinates → Option Coordinates → Type 0
IsKnownBehind line before after = ((IsPositionLine line → ⊥) × (after ≡ before)) ⊎ (IsPositionLine line × position_line line.text (Ok after))

known_first : (line : TextLine) (header : List TextLine) (before next after : Option Coordinates)
    → IsKnownBehind line before next → IsKnown header next after
    → IsKnown (line ∷ header) before after
known_first line header before next after (inl (other, same)) (inl (none, e)) = inl ((other, none), e ∙ same)
known_first line header before next after (inr (is, says)) (inl (none, e)) =
    inr (record { before = []; line = line; behind = header; spelled = refl; labelled = is; last = none; are = subst (λ (c : Option Coordinates). position_line line.text (Ok c)) (sym e) says })
known_first line header before next after b (inr k) =
    inr (record { before = line ∷ k.before; line = k.line; behind = k.behind; spelled = ap (λ (l : List TextLine). line ∷ l) k.spelled; labelled = k.labelled; last = k.last; are = k.are })

-- a label that begins with another letter
other_label : (label some : List ℕ) → (get_or some 0 0 ≡ 65 → ⊥) → label ≡ some
    → label ≡ codes "APPROX POSITION XYZ" → ⊥
other_label label some apart a b = apart (ap (λ (l : List ℕ). get_or l 0 0) (sym a ∙ b))

known_behind : (both : Bool) (header : Header) (line : TextLine)
    → Give (λ (next : Header). IsKnownBehind line header.position next.position) (header_line both true header line)
known_behind both header line =
    let Meets : Header → Type 0 = λ next. IsKnownBehind line header.position next.position in
    on_where Meets _ _ _
    (λ types. on_then Meets (types_line 71 header.gps line.text) _ (λ gps l. on_then Meets (galileo_line both header.galileo line.text) _ (λ galileo m.
    given Meets _ (inl (other_label _ (codes "SYS / # / OBS TYPES") (λ e. absurd (omega (arith, e))) types, refl)))))
    (on_where Meets _ _ _ (λ time. on_test Meets _ _ _ (λ system. given Meets header (inl (other_label _ (codes "TIME OF FIRST OBS") (λ e. absurd (omega (arith, e))) time, refl))))
    (on_where Meets _ _ _ (λ scale. on_test Meets _ _ _ (λ free. given Meets header (inl (other_label _ (codes "SYS / SCALE FACTOR") (λ e. absurd (omega (arith, e))) scale, refl))))
    (on_either Meets _ _ _
    (λ is. on_then Meets (position_line line.text) _ (λ coordinates l. given Meets _ (inr (is.0, l))))
    (λ other. given Meets header (inl (λ labelled. other (labelled, refl), refl))))))

-- ---- the types

types_label : (label : List ℕ) → label ≡ codes "SYS / # / OBS TYPES"
    → bytes_eq label (codes "SYS / # / OBS TYPES") ≡ true
types_label label e = (bytes_eq-Decides label (codes "SYS / # / OBS TYPES")).1 e

no_types_label : (label : List ℕ) → (label ≡ codes "SYS / # / OBS TYPES" → ⊥)
    → bytes_eq label (codes "SYS / # / OBS TYPES") ≡ false
no_types_label label other = elim (bytes_eq label (codes "SYS / # / OBS TYPES")) as (λ b. (b ≡ true → label ≡ codes "SYS / # / OBS TYPES") → b ≡ false) [
  | true ↦ λ is. absurd (other (is refl))
  | false ↦ λ is. refl
] ((bytes_eq-Decides label (codes "SYS / # / OBS TYPES")).0)

-- what is listed of Galileo behind a line of the header
abbrev AreGalileoBehind : Bool → TextLine → Option Types → Option Types → Type 0
AreGalileoBehind false line before after = after ≡ before
AreGalileoBehind true line before after = AreTypesBehind 69 line before after

galileo_types : (both : Bool) (line : TextLine) (before after : Option Types)
    → is_types_line line ≡ true → galileo_line both before line.text (Ok after)
    → AreGalileoBehind both line before after
galileo_types false line before after is e = ok_same after before e
galileo_types true line before after is l = inl (is, l)

galileo_kept : (both : Bool) (line : TextLine) (before : Option Types) → is_types_line line ≡ false
    → AreGalileoBehind both line before before
galileo_kept false line before other = refl
galileo_kept true line before other = inr (other, refl)

-- ... behind some lines
abbrev WalksGalileo : Bool → Option Types → List TextLine → Option Types → Type 0
WalksGalileo false before lines after = after ≡ before
WalksGalileo true before lines after = Walks 69 before lines after

galileo_end : (both : Bool) (before : Option Types) → WalksGalileo both before [] before
galileo_end false before = refl
galileo_end true before = refl

galileo_first : (both : Bool) (line : TextLine) (header : List TextLine) (before next after : Option Types)
    → AreGalileoBehind both line before next
    → WalksGalileo both next (filter is_types_line header) after
    → WalksGalileo both before (filter is_types_line (line ∷ header)) after
galileo_first false line header before next after e f = f ∙ e
galileo_first true line header before next after l w = walks_first 69 line header before next after l w

-- what is listed behind a line of the header
record AreListed (both : Bool) (line : TextLine) (before after : Header) : Type 0 where
  gps : AreTypesBehind 71 line before.gps after.gps
  galileo : AreGalileoBehind both line before.galileo after.galileo

none_listed : (both : Bool) (header : Header) (line : TextLine) (coordinates : Option Coordinates)
    → is_types_line line ≡ false
    → AreListed both line header (record { gps = header.gps; galileo = header.galileo; position = coordinates })
none_listed both header line coordinates other = record { gps = inr (other, refl); galileo = galileo_kept both line header.galileo other }

listed : (both position : Bool) (header : Header) (line : TextLine)
    → Give (AreListed both line header) (header_line both position header line)
listed both position header line =
    let Meets : Header → Type 0 = AreListed both line header in
    on_either Meets _ _ _
    (λ is. let labelled = types_label (label_of line.text) is in
    on_then Meets (types_line 71 header.gps line.text) _ (λ gps l. on_then Meets (galileo_line both header.galileo line.text) _ (λ galileo m.
    given Meets _ (record { gps = inl (labelled, l); galileo = galileo_types both line header.galileo galileo labelled m }))))
    (λ other. let apart = no_types_label (label_of line.text) other in
    on_where Meets _ _ _ (λ time. on_test Meets _ _ _ (λ system. given Meets header (none_listed both header line header.position apart)))
    (on_where Meets _ _ _ (λ scale. on_test Meets _ _ _ (λ free. given Meets header (none_listed both header line header.position apart)))
    (on_where Meets _ _ _ (λ at. on_then Meets (position_line line.text) _ (λ coordinates l. given Meets _ (none_listed both header line coordinates apart)))
    (given Meets header (none_listed both header line header.position apart)))))

-- ---- the header

labels_apart : (label a b : List ℕ) (k : ℕ) → (get_or a k 0 ≡ get_or b k 0 → ⊥) → label ≡ a
    → label ≡ b → ⊥
labels_apart label a b k apart e f = apart (ap (λ (l : List ℕ). get_or l k 0) (sym e ∙ f))

is_fine : (both position : Bool) (header : Header) (line : TextLine)
    → Give (λ (next : Header). IsFineInHeader both position line) (header_line both position header line)
is_fine both position header line =
    let Meets : Header → Type 0 = λ next. IsFineInHeader both position line in
    on_either Meets _ _ _
    (λ is. on_then Meets (types_line 71 header.gps line.text) _ (λ gps l. on_then Meets (galileo_line both header.galileo line.text) _ (λ galileo m. given Meets _ (record {
      time = λ label. absurd (labels_apart _ (codes "SYS / # / OBS TYPES") (codes "TIME OF FIRST OBS") 0 (λ e. absurd (omega (arith, e))) is label);
      scale = λ label. absurd (labels_apart _ (codes "SYS / # / OBS TYPES") (codes "SYS / SCALE FACTOR") 6 (λ e. absurd (omega (arith, e))) is label);
      place = λ wanted label. absurd (labels_apart _ (codes "SYS / # / OBS TYPES") (codes "APPROX POSITION XYZ") 0 (λ e. absurd (omega (arith, e))) is label);
    }))))
    (λ other. on_either Meets _ _ _
    (λ is. on_test Meets _ _ _ (λ system. given Meets header (record {
      time = λ label. system;
      scale = λ label. absurd (labels_apart _ (codes "TIME OF FIRST OBS") (codes "SYS / SCALE FACTOR") 0 (λ e. absurd (omega (arith, e))) is label);
      place = λ wanted label. absurd (labels_apart _ (codes "TIME OF FIRST OBS") (codes "APPROX POSITION XYZ") 0 (λ e. absurd (omega (arith, e))) is label);
    })))
    (λ no_time. on_either Meets _ _ _
    (λ is. on_test Meets _ _ _ (λ free. given Meets header (record {
      time = λ label. absurd (no_time label);
      scale = λ label. free;
      place = λ wanted label. absurd (labels_apart _ (codes "SYS / SCALE FACTOR") (codes "APPROX POSITION XYZ") 0 (λ e. absurd (omega (arith, e))) is label);
    })))
    (λ no_scale. on_either Meets _ _ _
    (λ is. on_then Meets (position_line line.text) _ (λ coordinates l. given Meets _ (record { time = λ label. absurd (no_time label); scale = λ label. absurd (no_scale label); place = λ wanted label. (coordinates, l) })))
    (λ none. given Meets header (record { time = λ label. absurd (no_time label); scale = λ label. absurd (no_scale label); place = λ wanted label. absurd (none (label, wanted)) })))))

record IsStart (sought : Sought) (position : Bool) (known : Header) (lines : List TextLine) (start : Start) : Type 0 where
  header : List TextLine
  end : TextLine
  spelled : lines ≡ header ++ end ∷ start.behind.lines
  ends : IsHeaderEnd end
  none_before : AllByRecursion (λ line. IsHeaderEnd line → ⊥) header
  short : AllByRecursion IsShort (header ++ end ∷ [])
  fine : AllByRecursion (IsFineInHeader (are_both sought) position) header
  after : Option Coordinates
  known_is : position ≡ true → IsKnown header known.position after
  position_is : IsPosition position after start.position
  gps : Option Types
  gps_are : Walks 71 known.gps (filter is_types_line header) gps
  galileo : Option Types
  galileo_are : WalksGalileo (are_both sought) known.galileo (filter is_types_line header) galileo
  complete : AreComplete gps × AreComplete galileo
  wanted_is : AreWanted sought (codes_of gps) (codes_of galileo) start.wanted

record IsEnd (sought : Sought) (position : Bool) (known : Header) (end : Wanted × Option Pos) : Type 0 where
  complete : AreComplete known.gps × AreComplete known.galileo
  wanted : AreWanted sought (codes_of known.gps) (codes_of known.galileo) end.0
  position_is : IsPosition position known.position end.1

end_gives : (sought : Sought) (position : Bool) (known : Header)
    → Give (IsEnd sought position known) (header_end sought position known)
end_gives sought position known =
    let Meets : Wanted × Option Pos → Type 0 = IsEnd sought position known in
    on_test Meets _ _ _ (λ complete. on_read Meets _ _ _ (λ wanted (is : AreWanted sought (codes_of known.gps) (codes_of known.galileo) wanted). on_read Meets _ _ _ (λ point (at : IsPosition position known.position point).
    given Meets (wanted, point) (record { complete = complete; wanted = is; position_is = at }))))

start_first : (sought : Sought) (position : Bool) (known next : Header) (line : TextLine) (more : List TextLine) (start : Start)
    → IsShort line → (IsHeaderEnd line → ⊥)
    → (position ≡ true → IsKnownBehind line known.position next.position)
    → AreListed (are_both sought) line known next
    → IsFineInHeader (are_both sought) position line
    → IsStart sought position next more start → IsStart sought position known (line ∷ more) start
start_first sought position known next line more start short other says lists fine s = record {
  header = line ∷ s.header;
  end = s.end;
  spelled = ap (λ (l : List TextLine). line ∷ l) s.spelled;
  ends = s.ends;
  none_before = (other, s.none_before);
  short = (short, s.short);
  fine = (fine, s.fine);
  after = s.after;
  known_is = λ e. known_first line s.header known.position next.position s.after (says e) (s.known_is e);
  position_is = s.position_is;
  gps = s.gps;
  gps_are = walks_first 71 line s.header known.gps next.gps s.gps lists.gps s.gps_are;
  galileo = s.galileo;
  galileo_are = galileo_first (are_both sought) line s.header known.galileo next.galileo s.galileo lists.galileo s.galileo_are;
  complete = s.complete;
  wanted_is = s.wanted_is;
}

starts : (sought : Sought) (position : Bool) (known : Header) (number : ℕ) (lines : List TextLine)
    → Give (IsStart sought position known lines) (header_lines sought position known number lines)
starts sought position known number [] = λ r. λ e. rw e tt
starts sought position known number (line ∷ more) =
    let Meets : Start → Type 0 = IsStart sought position known (line ∷ more) in
    on_test Meets _ _ _ (λ short. on_either Meets _ _ _
    (λ is. on_line Meets (header_end sought position known) number _ (λ pair l.
    let end = end_gives sought position known (Ok pair) l in
    given Meets _ (record {
      header = [];
      end = line;
      spelled = refl;
      ends = is;
      none_before = tt;
      short = (short, tt);
      fine = tt;
      after = known.position;
      known_is = λ e. inl (tt, refl);
      position_is = end.position_is;
      gps = known.gps;
      gps_are = refl;
      galileo = known.galileo;
      galileo_are = galileo_end (are_both sought) known.galileo;
      complete = end.complete;
      wanted_is = end.wanted;
    })))
    (λ other. on_line Meets (header_line (are_both sought) position known line) number _ (λ next l. on_more (IsStart sought position next more) Meets _
    (λ start s. start_first sought position known next line more start short other (λ e. known_behind (are_both sought) known line (Ok next) (subst (λ (p : Bool). header_line (are_both sought) p known line (Ok next)) e l))
    (listed (are_both sought) position known line (Ok next) l) (is_fine (are_both sought) position known line (Ok next) l) s)
    (starts sought position next (number + 1) more))))

-- wanted codes are listed
no_places : (signal : Signal) (places : CodePlaces) → ArePlaces signal [] places → ⊥
no_places (Single code) places is = absurd cc
no_places (Dual first second) places is = absurd cc

-- the types of a system whose codes are wanted
has_types : (letter : ℕ) (signal : Signal) (typed : List TextLine) (places : CodePlaces) (types : Option Types)
    → Walks letter None typed types → AreComplete types → ArePlaces signal (codes_of types) places
    → AreTypes letter typed (codes_of types)
has_types letter signal typed places None w complete is = absurd (no_places signal places is)
has_types letter signal typed places (Some types) w complete is = record { joined = joined letter typed types complete w; solid = solid_walk letter None typed (Some types) w tt }

has_galileo : (galileo : Option Signal) (typed : List TextLine) (places : Option CodePlaces) (types : Option Types)
    → WalksGalileo (is_some galileo) None typed types → AreComplete types
    → MayBePlaces galileo (codes_of types) places
    → AreGalileoTypes (is_some galileo) typed (codes_of types)
has_galileo None typed places types e complete is = ap codes_of e
has_galileo (Some signal) typed None types w complete is = absurd is
has_galileo (Some signal) typed (Some places) types w complete is = has_types 69 signal typed places types w complete is

-- ---- files

point_of : (position : Bool) (header : List TextLine) (after : Option Coordinates) (point : Option Pos)
    → (position ≡ true → IsKnown header None after) → IsPosition position after point
    → IsPositionOf position header point
point_of false header after None known is = refl
point_of false header after (Some point) known is = absurd is
point_of true header None point known is = absurd is
point_of true header (Some coordinates) None known is = absurd is
point_of true header (Some coordinates) (Some point) known is = elim (known refl) [
  | inl (none, e) ↦ absurd cc
  | inr k ↦ record { before = k.before; line = k.line; behind = k.behind; spelled = k.spelled; labelled = k.labelled; last = k.last; coordinates = coordinates; are = k.are; point_is = is }
]

version_short : (both : Bool) (line : TextLine)
    → Give (λ (passed : Unit {0}). IsShort line) (version_line_of both 79 line)
version_short both line =
    let Meets : Unit {0} → Type 0 = λ passed. IsShort line in
    on_test Meets _ _ _ (λ short. on_test Meets _ _ _ (λ label. on_test Meets _ _ _ (λ version. on_test Meets _ _ _ (λ kind. on_test Meets _ _ _ (λ system. given Meets tt short)))))

-- the lines behind the version line
behind_version : (both : Bool) (lines : List TextLine)
    → Give (λ (version : Behind). (line : TextLine) × (lines ≡ line ∷ version.lines) × IsShort line) (version_by both 79 lines)
behind_version both [] = λ r. λ e. rw e tt
behind_version both (line ∷ more) =
    let Meets : Behind → Type 0 = λ version. (first : TextLine) × (line ∷ more ≡ first ∷ version.lines) × IsShort first in
    on_line Meets (version_line_of both 79 line) 1 _ (λ passed l. given Meets _ (line, refl, version_short both line (Ok passed) l))

pub whole : (rising : Bool) (sought : Sought) (position : Bool) (text : List ℕ) (observations : Observations)
    → IsObsFileBy rising sought position text observations
    → IsWholeOf sought position (lines_of text) observations
whole rising sought position text observations file =
    let Meets : Observations → Type 0 = IsWholeOf sought position (lines_of text) in
    on_then Meets (version_by (are_both sought) 79 (lines_of text)) _ (λ version v. on_then Meets (header_lines sought position unread version.number version.lines) _ (λ start s.
    on_then Meets (epochs_from rising start.wanted [] start.behind.number 0 (counted start.behind.lines)) _ (λ epochs e.
    let first = behind_version (are_both sought) (lines_of text) (Ok version) v in
    let top = starts sought position unread version.number version.lines (Ok start) s in
    let typed = filter is_types_line top.header in
    let gps = has_types 71 sought.gps typed start.wanted.gps top.gps top.gps_are top.complete.0 top.wanted_is.of_gps in
    let galileo = has_galileo sought.galileo typed start.wanted.galileo top.galileo top.galileo_are top.complete.1 top.wanted_is.of_galileo in
    let body = shared rising start.wanted [] start.behind.number 0 (counted start.behind.lines) (Ok epochs) e in
    given Meets (record { position = start.position; epochs = epochs }) (record {
      header = top.header;
      behind = start.behind.lines;
      parted = record { version = first.0; end = top.end; spelled = first.1 ∙ ap (λ (l : List TextLine). first.0 ∷ l) top.spelled; ends = top.ends; none_before = top.none_before; short = (first.2, top.short) };
      fine = top.fine;
      position_is = point_of position top.header top.after start.position top.known_is top.position_is;
      gps = codes_of top.gps;
      gps_are = gps;
      galileo = codes_of top.galileo;
      galileo_are = galileo;
      wanted = start.wanted;
      wanted_is = top.wanted_is;
      epochs_are = record { parts = body.parts; spelled = body.spelled; are_parts = body.are_parts; epochs_are = subst (OneForOne (IsEpochOf start.wanted) (filter begins_epoch body.parts)) (sym body.after_is) body.epochs_are };
    })))) (Ok observations) file

pub whole_read : (rising : Bool) (sought : Sought) (position : Bool) (text : List ℕ) (read : Result Obs ReadError)
    → IfOk read (λ obs. IsObsFileBy rising sought position text (observations_of obs))
    → IfOk read (λ obs. IsWholeOf sought position (lines_of text) (observations_of obs))
whole_read rising sought position text (Ok obs) file = whole rising sought position text (observations_of obs) file
whole_read rising sought position text (Err e) file = tt
