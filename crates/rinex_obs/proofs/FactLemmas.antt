-- The numbers and the satellites of the epochs that are read.
use Rattle.std.proofs.Common.{◌≡◌, ℕ, zero, suc, ◌+◌, ◌<◌, Bool, false, List, [], ◌∷◌, ◌++◌, length, refl, ap, sym, subst, inl, inr, arith, Option, None, Some, is_some, Result, Ok, Err, IfOk}
use Rattle.std.specs.Prelude.{ℤ}
use Rattle.std.specs.List.{AllByRecursion, list_any}
use Rattle.std.proofs.lemmas.Grind.{common_steps}
use Rattle.std.proofs.lemmas.List.{append-nil, length-append}
use Rattle.rinex_text.specs.Bodies.{counted, first_of}
use Rattle.rinex_text.specs.Columns.{column_of}
use Rattle.rinex_text.specs.Counts.{IsNumber}
use Rattle.grid_model.specs.declared.boxes.Pos.{Pos}
use Rattle.rinex_text.specs.Faults.{test, where_holds, read, then, gives, line_gives}
use Rattle.rinex_text.specs.Headers.{Behind, version_by}
use Rattle.rinex_text.specs.Lines.{TextLine, lines_of}
use Rattle.rinex_text.specs.declared.fault.Fault.{Fault}
use Rattle.rinex_text.specs.declared.fault.ReadError.{ReadError}
use Rattle.rinex_text.specs.declared.fault.Refusal.{Refusal}
use Rattle.gnss_model.specs.declared.satellites.Sat.{Sat}
use Rattle.gnss_model.specs.declared.satellites.Signal.{Signal}
use Rattle.rinex_obs.specs.declared.sought.Sought.{Sought}
use Rattle.rinex_obs.specs.Types.{Code, IsRead}
use Rattle.rinex_obs.specs.Header.{CodePlaces, MayBePlaces, Wanted, have_both, AreWanted, are_both, Header, header_line, header_end, header_lines, Start}
use Rattle.rinex_obs.specs.Epochs.{Observed, Block, in_order, head_line, ArePlacesOf, has_sat, sat_on, satellite_line, satellites_from, event_from, block_from, time_before, epochs_from}
use Rattle.rinex_obs.specs.Facts.{AreNumberedFrom, AreNumbered, IsSatOf, AreSatsOf, AreDistinct, InEach}
use Rattle.rinex_obs.specs.Files.{Observations, unread, IsObsFileBy}
use Rattle.rinex_obs.specs.Reading.{observations_of}
use Rattle.rinex_obs.specs.declared.head.Head.{Head}
use Rattle.rinex_obs.specs.declared.head.Head.TheVariants.{Epoch, Event}
use Rattle.rinex_obs.specs.declared.obs.Obs.{Obs}
use Rattle.rinex_obs.specs.declared.obs.SatObs.{SatObs}

-- ---- readers

-- the value that the reader gives meets the fact
abbrev pub Give : {X E : Type 0} → (X → Type 0) → (Result X E → Type 0) → Type 0
Give {X} {E} Meets reader = (r : Result X E) → reader r → IfOk r Meets

pub given : {X E : Type 0} (Meets : X → Type 0) (v : X) → Meets v → Give {E = E} Meets (gives v)
given Meets v is r e = rw e is

pub on_test : {X E : Type 0} (Meets : X → Type 0) (P : Type 0) (f : E) (later : Result X E → Type 0)
    → (P → Give Meets later) → Give Meets (test P f later)
on_test Meets P f later h r (inl (p, l)) = h p r l
on_test Meets P f later h r (inr (other, e)) = rw e tt

pub on_where : {X E : Type 0} (Meets : X → Type 0) (P : Type 0) (first second : Result X E → Type 0)
    → (P → Give Meets first) → Give Meets second → Give Meets (where_holds P first second)
on_where Meets P first second h k r (inl (p, l)) = h p r l
on_where Meets P first second h k r (inr (other, l)) = k r l

-- ... and where the second rests on the test too
pub on_either : {X E : Type 0} (Meets : X → Type 0) (P : Type 0) (first second : Result X E → Type 0)
    → (P → Give Meets first) → ((P → ⊥) → Give Meets second)
    → Give Meets (where_holds P first second)
on_either Meets P first second h k r (inl (p, l)) = h p r l
on_either Meets P first second h k r (inr (other, l)) = k other r l

pub on_read : {V X E : Type 0} (Meets : X → Type 0) (Is : V → Type 0) (f : E) (later : V → Result X E → Type 0)
    → ((v : V) → Is v → Give Meets (later v)) → Give Meets (read Is f later)
on_read Meets Is f later h r (inl (v, is, l)) = h v is r l
on_read Meets Is f later h r (inr (other, e)) = rw e tt

pub on_then : {V X E : Type 0} (Meets : X → Type 0) (reader : Result V E → Type 0) (later : V → Result X E → Type 0)
    → ((v : V) → reader (Ok v) → Give Meets (later v)) → Give Meets (then reader later)
on_then Meets reader later h r (inl (v, is, l)) = h v is r l
on_then Meets reader later h r (inr (e, is, l)) = rw l tt

pub on_line : {V X : Type 0} (Meets : X → Type 0) (line : Result V Fault → Type 0) (number : ℕ) (later : V → Result X Refusal → Type 0)
    → ((v : V) → line (Ok v) → Give Meets (later v)) → Give Meets (line_gives line number later)
on_line Meets line number later h r (inl (v, is, l)) = h v is r l
on_line Meets line number later h r (inr (f, is, e)) = rw e tt

on_first : {V X : Type 0} (Meets : X → Type 0) (line : TextLine → Result V Fault → Type 0) (number : ℕ) (lines : List TextLine) (later : V → Behind → Result X Refusal → Type 0)
    → ((t : TextLine) (v : V) (next : Behind) → line t (Ok v) → Give Meets (later v next))
    → Give Meets (first_of line number lines later)
on_first Meets line number [] later h r e = rw e tt
on_first Meets line number (next ∷ more) later h r l = on_line Meets (line next) number (λ v. later v (record { number = number + 1; lines = more })) (λ v is. h next v (record { number = number + 1; lines = more }) is) r l

pub on_more : {X E : Type 0} (P Q : X → Type 0) (reader : Result X E → Type 0)
    → ((v : X) → P v → Q v) → Give P reader → Give Q reader
on_more P Q reader more h (Ok v) l = more v (h (Ok v) l)
on_more P Q reader more h (Err e) l = tt

-- ---- satellites

record AreSats (both : Bool) (sats : List SatObs) : Type 0 where
  named : AreSatsOf both sats
  distinct : AreDistinct sats

pub all_more : {X : Type 0} (P : X → Type 0) (xs : List X) (x : X) → AllByRecursion P xs → P x
    → AllByRecursion P (xs ++ x ∷ [])
all_more P [] x all one = (one, tt)
all_more P (first ∷ xs) x all one = (all.0, all_more P xs x all.1 one)

distinct_more : (sats : List SatObs) (seen : SatObs) → AreDistinct sats
    → list_any (has_sat seen.sat) sats ≡ false → AreDistinct (sats ++ seen ∷ [])
distinct_more [] seen distinct new = (tt, tt)
distinct_more (first ∷ sats) seen distinct new = (
  all_more _ sats seen distinct.0 (λ same.
      let number : first.sat.number ≡ seen.sat.number = ap (λ (s : Sat). s.number) (sym same) in
      let system : first.sat.system ≡ seen.sat.system = ap (λ (s : Sat). s.system) (sym same) in
      grind (arith, common_steps)),
  distinct_more sats seen distinct.1 (grind (arith, common_steps)),
)

-- a letter for which there are places is one of a system that is read
pub has_places : (gps : CodePlaces) (galileo : Option CodePlaces) (letter : ℕ) (places : CodePlaces)
    → ArePlacesOf (record { gps = gps; galileo = galileo }) letter places
    → IsRead (is_some galileo) letter
has_places gps None letter places (inl (is, e)) = is
has_places gps None letter places (inr (is, e)) = absurd cc
has_places gps (Some own) letter places (inl (is, e)) = inl is
has_places gps (Some own) letter places (inr (is, e)) = inr is

on_satellite : (wanted : Wanted) (sats : List SatObs) (line : TextLine)
    → AreSats (have_both wanted) sats
    → Give (AreSats (have_both wanted)) (satellite_line wanted sats line)
on_satellite wanted sats line are =
    let Meets : List SatObs → Type 0 = AreSats (have_both wanted) in
    on_test Meets _ _ _ (λ short. on_where Meets _ _ _ (λ other. given Meets sats are)
    (on_test Meets _ _ _ (λ ascii. on_read Meets _ _ _ (λ places (own : ArePlacesOf wanted (column_of line.text 1) places). on_read Meets _ _ _ (λ number (is : IsNumber line.text number).
    on_test Meets _ _ _ (λ new. on_test Meets _ _ _ (λ room. on_read Meets _ _ _ (λ first a. on_read Meets _ _ _ (λ second b.
    let seen : SatObs = record { sat = sat_on line number; first = first; second = second } in
    given Meets (sats ++ seen ∷ []) (record {
      named = all_more (IsSatOf (have_both wanted)) sats seen are.named (record { system = has_places wanted.gps wanted.galileo (column_of line.text 1) places own; from = is.from; to = is.to });
      distinct = distinct_more sats seen are.distinct new;
    }))))))))))

on_satellites : (wanted : Wanted) (left : ℕ) (sats : List SatObs) (from : Behind)
    → AreSats (have_both wanted) sats
    → Give (AreSats (have_both wanted)) (satellites_from wanted left sats from)
on_satellites wanted zero sats from are = given (AreSats (have_both wanted)) sats are
on_satellites wanted (suc left) sats from are =
    on_first (AreSats (have_both wanted)) (satellite_line wanted sats) from.number from.lines (λ more next. satellites_from wanted left more next)
    (λ line more next is. on_satellites wanted left more next (on_satellite wanted sats line are (Ok more) is))

-- ---- epochs

pub record AreEpochs (both : Bool) (epochs : List Observed) : Type 0 where
  pub numbered : AreNumbered epochs
  pub named : InEach (AreSatsOf both) epochs
  pub distinct : InEach AreDistinct epochs

-- an epoch is one of so many
abbrev IsOneMore : ℕ → Head → Type 0
IsOneMore count (Epoch tag lines) = count < 200000
IsOneMore count (Event labelled lines) = Unit {0}

-- what holds of an epoch holds of it where its time is in order
pub on_order : (Meets : Head → Type 0) (before : Option ℤ) (tag : ℤ) (lines : ℕ)
    → Meets (Epoch tag lines) → Give Meets (in_order before tag lines)
on_order Meets None tag lines is = given Meets (Epoch tag lines) is
on_order Meets (Some before) tag lines is = on_test Meets _ _ _ (λ later. given Meets (Epoch tag lines) is)

on_head : (count : ℕ) (before : Option ℤ) (line : TextLine)
    → Give (IsOneMore count) (head_line count before line)
on_head count before line =
    on_test (IsOneMore count) _ _ _ (λ short. on_test (IsOneMore count) _ _ _ (λ ascii. on_test (IsOneMore count) _ _ _ (λ mark. on_test (IsOneMore count) _ _ _ (λ flag.
    on_read (IsOneMore count) _ _ _ (λ lines is. on_where (IsOneMore count) _ _ _
    (λ epoch. on_read (IsOneMore count) _ _ _ (λ tag time. on_test (IsOneMore count) _ _ _ (λ few. on_order (IsOneMore count) before tag lines few)))
    (given (IsOneMore count) (Event _ lines) tt))))))

numbered_more : (next : ℕ) (epochs : List Observed) (epoch : Observed) → AreNumberedFrom next epochs
    → epoch.index ≡ length epochs + next → AreNumberedFrom next (epochs ++ epoch ∷ [])
numbered_more next [] epoch numbered is = (omega (arith, is), tt)
numbered_more next (first ∷ epochs) epoch numbered is = (numbered.0, numbered_more (next + 1) epochs epoch numbered.1 (omega (arith, is)))

with_epoch : (both : Bool) (epochs : List Observed) (epoch : Observed) → AreEpochs both epochs
    → AreSats both epoch.sats → epoch.index ≡ length epochs + 1 → length epochs < 200000
    → AreEpochs both (epochs ++ epoch ∷ [])
with_epoch both epochs epoch are sats is few = record {
  numbered = record { in_order = numbered_more 1 epochs epoch are.numbered.in_order is; at_most = omega (arith, length-append epochs (epoch ∷ [])) };
  named = all_more (λ (e : Observed). AreSatsOf both e.sats) epochs epoch are.named sats.named;
  distinct = all_more (λ (e : Observed). AreDistinct e.sats) epochs epoch are.distinct sats.distinct;
}

on_block : (wanted : Wanted) (epochs : List Observed) (head : Head) (from : Behind)
    → IsOneMore (length epochs) head → AreEpochs (have_both wanted) epochs
    → Give (λ (block : Block). AreEpochs (have_both wanted) (epochs ++ block.epochs)) (block_from wanted (length epochs) head from)
on_block wanted epochs (Epoch tag lines) from few are =
    let Meets : Block → Type 0 = λ block. AreEpochs (have_both wanted) (epochs ++ block.epochs) in
    on_then Meets (satellites_from wanted lines [] from) _ (λ sats l. given Meets _ (with_epoch (have_both wanted) epochs (record { index = length epochs + 1; tag = tag; sats = sats }) are (on_satellites wanted lines [] from (record { named = tt; distinct = tt }) (Ok sats) l) refl few))
on_block wanted epochs (Event labelled lines) from few are =
    let Meets : Block → Type 0 = λ block. AreEpochs (have_both wanted) (epochs ++ block.epochs) in
    on_then Meets (event_from (have_both wanted) labelled lines from) _ (λ none l. given Meets _ (rw append-nil are))

on_epochs : (rising : Bool) (wanted : Wanted) (epochs : List Observed) (number skip : ℕ) (lines : List TextLine)
    → AreEpochs (have_both wanted) epochs
    → Give (AreEpochs (have_both wanted)) (epochs_from rising wanted epochs number skip lines)
on_epochs rising wanted epochs number skip [] are = given (AreEpochs (have_both wanted)) epochs are
on_epochs rising wanted epochs number (suc skip) (line ∷ more) are = on_epochs rising wanted epochs (number + 1) skip more are
on_epochs rising wanted epochs number zero (line ∷ more) are =
    on_line (AreEpochs (have_both wanted)) (head_line (length epochs) (time_before rising epochs) line) number _ (λ head is. on_then (AreEpochs (have_both wanted)) (block_from wanted (length epochs) head (record { number = number + 1; lines = more })) _ (λ block l.
    on_epochs rising wanted (epochs ++ block.epochs) (number + 1) block.lines more (on_block wanted epochs head (record { number = number + 1; lines = more }) (on_head (length epochs) (time_before rising epochs) line (Ok head) is) are (Ok block) l)))

-- ---- both systems

-- there are places for codes of Galileo where these are wanted
same_systems : (signal : Option Signal) (types : List Code) (places : Option CodePlaces)
    → MayBePlaces signal types places → is_some places ≡ is_some signal
same_systems None types places is = rw is refl
same_systems (Some signal) types None is = absurd is
same_systems (Some signal) types (Some places) is = refl

abbrev AreAlike : Sought → Start → Type 0
AreAlike sought start = have_both start.wanted ≡ are_both sought

on_end : (sought : Sought) (position : Bool) (header : Header)
    → Give (λ (end : Wanted × Option Pos). have_both end.0 ≡ are_both sought) (header_end sought position header)
on_end sought position header =
    let Meets : Wanted × Option Pos → Type 0 = λ end. have_both end.0 ≡ are_both sought in
    on_test Meets _ _ _ (λ complete. on_read Meets _ _ _ (λ wanted (is : AreWanted sought _ _ wanted). on_read Meets _ _ _ (λ point at.
    given Meets (wanted, point) (same_systems sought.galileo _ wanted.galileo is.of_galileo))))

on_header : (sought : Sought) (position : Bool) (header : Header) (number : ℕ) (lines : List TextLine)
    → Give (AreAlike sought) (header_lines sought position header number lines)
on_header sought position header number [] = λ r. λ e. rw e tt
on_header sought position header number (line ∷ more) =
    on_test (AreAlike sought) _ _ _ (λ short. on_where (AreAlike sought) _ _ _
    (λ is. on_line (AreAlike sought) (header_end sought position header) number _ (λ end l. given (AreAlike sought) _ (on_end sought position header (Ok end) l)))
    (on_line (AreAlike sought) (header_line (are_both sought) position header line) number _ (λ next l. on_header sought position next (number + 1) more)))

-- ---- files

pub on_file : (rising : Bool) (sought : Sought) (position : Bool) (text : List ℕ) (observations : Observations)
    → IsObsFileBy rising sought position text observations
    → AreEpochs (are_both sought) observations.epochs
on_file rising sought position text observations file =
    let Meets : Observations → Type 0 = λ observations. AreEpochs (are_both sought) observations.epochs in
    on_then Meets (version_by (are_both sought) 79 (lines_of text)) _ (λ version v. on_then Meets (header_lines sought position unread version.number version.lines) _ (λ start s.
    on_then Meets (epochs_from rising start.wanted [] start.behind.number 0 (counted start.behind.lines)) _ (λ epochs e.
    let none : AreEpochs (have_both start.wanted) [] = record { numbered = record { in_order = tt; at_most = omega arith }; named = tt; distinct = tt } in
    let are = on_epochs rising start.wanted [] start.behind.number 0 (counted start.behind.lines) none (Ok epochs) e in
    given Meets (record { position = start.position; epochs = epochs })
    (subst (λ (both : Bool). AreEpochs both epochs) (on_header sought position unread version.number version.lines (Ok start) s) are)))) (Ok observations) file

module _ (rising : Bool) (sought : Sought) (position : Bool) (text : List ℕ) where
  pub numbered_read : (read : Result Obs ReadError)
      → IfOk read (λ obs. IsObsFileBy rising sought position text (observations_of obs))
      → IfOk read (λ obs. AreNumbered (observations_of obs).epochs)
  numbered_read (Ok obs) file = (on_file rising sought position text (observations_of obs) file).numbered
  numbered_read (Err e) file = tt

  pub distinct_read : (read : Result Obs ReadError)
      → IfOk read (λ obs. IsObsFileBy rising sought position text (observations_of obs))
      → IfOk read (λ obs. InEach AreDistinct (observations_of obs).epochs)
  distinct_read (Ok obs) file = (on_file rising sought position text (observations_of obs) file).distinct
  distinct_read (Err e) file = tt

  pub named_read : (read : Result Obs ReadError)
      → IfOk read (λ obs. IsObsFileBy rising sought position text (observations_of obs))
      → IfOk read (λ obs. InEach (AreSatsOf (are_both sought)) (observations_of obs).epochs)
  named_read (Ok obs) file = (on_file rising sought position text (observations_of obs) file).named
  named_read (Err e) file = tt
