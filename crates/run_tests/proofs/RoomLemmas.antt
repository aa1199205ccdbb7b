-- What is left of the room behind a run, and that nothing fails while some is.
use Rattle.std.proofs.Common.{◌≡◌, ◌≤◌, ◌<◌, ◌∙◌, ℕ, ◌+◌, Bool, true, false, List, [], length, take, Option, None, Some, is_some, Result, Ok, Err, refl, sym, ap, subst, inl, inr, arith, length-append}
use Rattle.std.specs.Prelude.{IfSome}
use Rattle.error_bounds.specs.Texts as settings
use Rattle.std.specs.FinMap as map
use Rattle.std.specs.Option.{option_map}
use Rattle.std.proofs.lemmas.List.{length-take}
use Rattle.command_words.specs.Commands as words
use Rattle.command_words.specs.Commands.{Command, Judge, Pave, Solve, Check, Track, Retrack, Guard, Make}
use Rattle.epoch_selection.specs.declared.selection.Selection.{Selection}
use Rattle.grid_model.specs.Boxes.{GridBox}
use Rattle.moving_tube.specs.Roots.{Before}
use Rattle.input_files.specs.Earlier.{earlier_text}
use Rattle.input_files.specs.Inputs.{InputsValue, ReadsAfter, ReadsBehind, ReadsReceiver, search_of, ReadsBehindNav, ReadsFor, ReadsNav, ReadsObs, ReadsStation, settings_text, nav_text, obs_text, station_text, message_of, sought_of, wants_position}
use Rattle.input_files.specs.Zones.{zones_text}
use Rattle.input_files.specs.Logs.{log_text, rows_text}
use Rattle.input_files.specs.Reading as reading
use Rattle.input_files.specs.Reading.{Text, Breaks, MayBreak, Reading, Found, valued, Named, Then, Returns, ReadsFile, limit_of, LeavesFiles, NamedSlots}
use Rattle.input_files.specs.Statuses.{status_of}
use Rattle.input_files.specs.declared.inputs.Inputs.{Inputs}
use Rattle.input_files.specs.declared.limits.Limits.{Limits}
use Rattle.input_files.specs.declared.notice.Notice.{Notice}
use Rattle.input_files.specs.declared.notice.Notice.TheVariants as notice
use Rattle.input_files.specs.declared.status.Status.{Status}
use Rattle.input_files.specs.declared.status.Status.TheVariants as status
use Rattle.log_writer.specs.Breaks.{BrokeOff, LogBreaks, IsFrontOf}
use Rattle.log_writer.specs.Pieces.{Piece, log_bytes}
use Rattle.log_writer.specs.RowsFrom.{of_rows}
use Rattle.log_writer.specs.Sources.{Source}
use Rattle.log_writer.specs.Texts.{IsText}
use Rattle.log_writer.specs.Writing.{Trust}
use Rattle.log_writer.specs.declared.fault.WriteFault.{WriteFault}
use Rattle.log_writer.specs.declared.fault.WriteFault.TheVariants as why
use Rattle.log_writer.proofs.WritingLemmas.{log_bytes-append}
use Rattle.paving_log.specs.Values.{log_value}
use Rattle.outer_io.specs.Taken.{SinkState, SinkTold, TakenBy, taking}
use Rattle.outer_io.specs.Told.{Files, ShelfState, Told, ShelfTerms, files_of, written_of, terms_of}
use Rattle.outer_io.proofs.Appending.{taking-none}
use Rattle.sat_model.specs.declared.rules.Rules.{Rules}
use Rattle.rinex_obs.specs.Files.{Observations}
use Rattle.rinex_obs.specs.declared.sought.Sought.{Sought}
use Rattle.sat_model.specs.Logs.{LogValue}
use Rattle.cover_run.specs.Checking.{CheckedValue, ReadsCheckedFor, ReadsLog}
use Rattle.cover_run.specs.Making.{Makes, made_text}
use Rattle.cover_run.specs.Guarding.{ReadsGuarded, ReadsLogBehind, ReadsZones, guarded_by}
use Rattle.cover_run.specs.Paving.{IsPaved}
use Rattle.cover_run.specs.Chosen.{chosen_in}
use Rattle.cover_run.specs.Runs.{Task, RunOf, Ends, Stops, OnlySays, Obeys, Quietly, Runs, TellsAlone, asks_quiet, muted, muted_trust, judging, paving, solving, checking, tracking, rechecking, guarding}
use Rattle.cover_run.specs.Solving.{IsSolution}
use Rattle.cover_run.specs.Tracking.{IsTrack}
use Rattle.cover_run.specs.Telling.{Tells, sinks}
use Rattle.cover_run.specs.Worlds.{World, Rewrites}
use Rattle.cover_run.specs.Writing.{Answer, Writes, SaysEnd, status_of_writing}
use Rattle.run_tests.specs.Roomy.{AreInputsThere, IsThere, AreThere, written_by, IsReady, HasShelfRoom, HasRoomBeyond, HasSinkRoom, IsFault}

-- ---- files that are read

-- no end of the reading is a read fault
abbrev NeverFails : {V : Type 0} → Breaks → Files → Reading V → Type 0
NeverFails breaks files reading = (n : Notice) → reading breaks (Some files) (Err n) → status_of n ≡ status.ReadFault → ⊥

apart : (s : Status) → s ≡ status.Refused → s ≡ status.ReadFault → ⊥
apart s a b = let e : status.Refused ≡ status.ReadFault = sym a ∙ b in cc

same_notice : {V : Type 0} (n m : Notice) → ◌≡◌ {A = Result V Notice} (Err n) (Err m) → n ≡ m
same_notice n m e = cc

module _ (before after : ShelfState) (reliable : Option (List ℕ) → Type 0) (sure : reliable None) (limits : Limits) (files : Files) where
  file_sound : {V : Type 0} (text : Text V) (limit : ℕ) (file : Option (List ℕ))
      → is_some file ≡ true → (n : Notice)
      → ReadsFile text limit (MayBreak before after reliable) (Some file) (Err n)
      → status_of n ≡ status.ReadFault → ⊥
  file_sound text limit None there n reads is = let e : false ≡ true = there in cc
  file_sound text limit (Some bytes) there n (inl (inl (short, (refused, names)))) is = apart (status_of n) refused is
  file_sound text limit (Some bytes) there n (inl (inr (long, e))) is = apart (status_of n) (ap status_of (same_notice n (notice.TooLong text.role limit) e)) is
  file_sound text limit (Some bytes) there n (inr (m, e, may, inl none)) is =
      let f : status.NoMemory ≡ status.ReadFault = sym (ap status_of (same_notice n m e ∙ none)) ∙ is in cc
  file_sound text limit (Some bytes) there n (inr (m, e, may, inr (fault, counted))) is = counted.unreliable None sure

  named_sound : {V : Type 0} (text : Text V) (name : List ℕ) → IsThere files name
      → NeverFails (MayBreak before after reliable) files (Named limits text name)
  named_sound text name there n reads is = file_sound text (limit_of limits text.role) (map.get files name) there n reads is

  then_sound : {V W : Type 0} (first : Reading V) (later : V → Reading W)
      → NeverFails (MayBreak before after reliable) files first
      → ((v : V) → NeverFails (MayBreak before after reliable) files (later v))
      → NeverFails (MayBreak before after reliable) files (Then first later)
  then_sound first later one more n (inl (v, is, goes)) = more v n goes
  then_sound first later one more n (inr (m, is, e)) = λ fault. one m is (sym (ap status_of (same_notice n m e)) ∙ fault)

  returns_sound : {V : Type 0} (v : V)
      → NeverFails (MayBreak before after reliable) files (Returns v)
  returns_sound v n e is = cc

-- ---- how much a log has

front_fits : (front bytes : List ℕ) → IsFrontOf front bytes → length front ≤ length bytes
front_fits front bytes (kept, e) = omega (arith, ap length e, length-take kept bytes)

log_fits : (text : List Piece) (log report : List ℕ) → LogBreaks text log report
    → length log ≤ length (log_bytes text)
log_fits text log report b =
    let all : length (log_bytes text) ≡ length (log_bytes b.earlier) + length (log_bytes b.later) = ap (λ (t : List Piece). length (log_bytes t)) b.all ∙ (ap length (log_bytes-append b.earlier b.later) ∙ length-append _ _) in
    let has : length log ≡ length (log_bytes b.earlier) + length b.rest = ap length b.log_is ∙ length-append _ _ in
    omega (arith, all, has, front_fits b.rest (log_bytes b.later) b.front)

broke_fits : (limit : ℕ) (pieces : List Piece) (fault : WriteFault) (log report : List ℕ)
    → BrokeOff limit pieces fault log report → length log ≤ limit
broke_fits limit pieces why.Log log report b = omega (arith, b.fits, log_fits b.text log report b.leaves)
broke_fits limit pieces why.Out log report b = omega (arith, b.fits, ap length b.leaves.0)
broke_fits limit pieces why.Full log report b = omega (arith, b.fits, ap length b.leaves.0)
broke_fits limit pieces why.NoMemory log report b = omega (arith, b.fits, ap length b.leaves.0)

text_fits : {B : Type 0} (source : Source B) (rules : Rules) (first last : B) (limit : ℕ) (answer : Answer) (bytes said : List ℕ)
    → IsText source rules first last limit answer bytes said → length bytes ≤ limit
text_fits source rules first last limit (Ok done) bytes said whole = whole.fits
text_fits source rules first last limit (Err fault) bytes said begun = broke_fits limit _ fault bytes said begun.broke

solution_fits : (chosen : Selection) (i : Inputs) (limit : ℕ) (answer : Answer) (bytes said : List ℕ)
    → IsSolution chosen i limit answer bytes said → length bytes ≤ limit
solution_fits chosen i limit (Ok done) bytes said solved = solved.whole.fits
solution_fits chosen i limit (Err fault) bytes said solved = broke_fits limit _ fault bytes said solved.begun.broke

track_fits : (chosen : Selection) (i : Inputs) (limit : ℕ) (answer : Answer) (bytes said : List ℕ)
    → IsTrack chosen i limit answer bytes said → length bytes ≤ limit
track_fits chosen i limit (Ok done) bytes said tracked = tracked.track.whole.fits
track_fits chosen i limit (Err fault) bytes said tracked = broke_fits limit _ fault bytes said tracked.begun.broke

-- ---- the shelf behind a run

-- it tells as much as before, and has written at most so many bytes more
record HasWritten (limit : ℕ) (before : Told) (after : ShelfState) : Type 0 where
  told : Told
  tells : after.told ≡ Some told
  terms : told.terms ≡ before.terms
  few : told.written ≤ before.written + limit

kept_told : (limit : ℕ) (before : Told) (after : ShelfState) (count : ℕ)
    → terms_of after ≡ Some before.terms → written_of after ≡ Some count
    → count ≤ before.written + limit → HasWritten limit before after
kept_told limit before after count terms written few = elim after.told as (λ o. after.told ≡ o → option_map (λ (t : Told). t.terms) o ≡ Some before.terms → option_map (λ (t : Told). t.written) o ≡ Some count → HasWritten limit before after) [
  | None ↦ λ tells e f. absurd cc
  | Some t ↦ λ tells e f.
      let same : t.terms ≡ before.terms = cc in
      let counts : t.written ≡ count = cc in
      record { told = t; tells = tells; terms = same; few = omega (arith, counts, few) }
] refl terms written

left_told : (limit : ℕ) (told : Told) (before after : ShelfState) → before.told ≡ Some told
    → LeavesFiles before after → HasWritten limit told after
left_told limit told before after tells leaves =
    kept_told limit told after told.written (leaves.terms ∙ ap (option_map (λ (t : Told). t.terms)) tells) (leaves.written ∙ ap (option_map (λ (t : Told). t.written)) tells) (omega arith)

written_told : (limit : ℕ) (told : Told) (before after : ShelfState) (name bytes : List ℕ)
    → before.told ≡ Some told → Rewrites before after name bytes → length bytes ≤ limit
    → HasWritten limit told after
written_told limit told before after name bytes tells log fits =
    kept_told limit told after (told.written + length bytes) (log.terms ∙ ap (option_map (λ (t : Told). t.terms)) tells)
    (log.written ∙ ap (λ (o : Option Told). option_map (λ count. count + length bytes) (option_map (λ (t : Told). t.written) o)) tells) (omega (arith, fits))

-- ---- `out` behind a run

-- it has taken some bytes, or none
abbrev Takes : SinkState → SinkState → Type 0
Takes before after = (bytes : List ℕ) × TakenBy before after bytes

took_none : (before after : SinkState) → after ≡ before → Takes before after
took_none before after e = ([], ap (λ (s : SinkState). s.told) e ∙ taking-none before.told)

module _ (Yes No : List ℕ → Type 0) (before after : World) (trust : Trust) where
  told_takes : (s : Status)
      → Tells Yes No (sinks before.out before.err) (sinks after.out after.err) trust.out s
      → Takes before.out after.out
  told_takes status.Done (line, says, prints) = (line, prints.0)
  told_takes status.No (line, says, prints) = (line, prints.0)
  told_takes status.WriteFault (line, which, breaks) = (take breaks.prefix.0 line, breaks.prefix.2)
  told_takes status.NoMemory (said, same) = took_none before.out after.out same
  told_takes status.Usage t = absurd t
  told_takes status.Refused t = absurd t
  told_takes status.ReadFault t = absurd t
  told_takes status.LogFull t = absurd t

  told_sound : (s : Status) → trust.out
      → Tells Yes No (sinks before.out before.err) (sinks after.out after.err) trust.out s
      → IsFault s → ⊥
  told_sound status.Done out t (inl e) = cc
  told_sound status.Done out t (inr e) = cc
  told_sound status.No out t (inl e) = cc
  told_sound status.No out t (inr e) = cc
  told_sound status.WriteFault out (line, which, breaks) is = breaks.unreliable out
  told_sound status.NoMemory out t (inl e) = cc
  told_sound status.NoMemory out t (inr e) = cc
  told_sound status.Usage out t is = t
  told_sound status.Refused out t is = t
  told_sound status.ReadFault out t is = t
  told_sound status.LogFull out t is = t

-- the two lines of made files
module _ (limit seed count : ℕ) (before after : World) (trust : Trust) where
  abbrev MakesHere : Status → Type 0
  MakesHere s = Makes limit seed count (sinks before.out before.err) (sinks after.out after.err) trust.out s

  makes_takes : (s : Status) → MakesHere s → Takes before.out after.out
  makes_takes status.Done (log, solves, prints) = (made_text seed count log, prints.0)
  makes_takes status.WriteFault (log, solves, breaks) = (take breaks.prefix.0 (made_text seed count log), breaks.prefix.2)
  makes_takes status.LogFull (full, said, same) = took_none before.out after.out same
  makes_takes status.NoMemory (said, same) = took_none before.out after.out same
  makes_takes status.No m = absurd m
  makes_takes status.Usage m = absurd m
  makes_takes status.Refused m = absurd m
  makes_takes status.ReadFault m = absurd m

  makes_sound : (s : Status) → trust.out → MakesHere s → IsFault s → ⊥
  makes_sound status.Done out m (inl e) = cc
  makes_sound status.Done out m (inr e) = cc
  makes_sound status.WriteFault out (log, solves, breaks) is = breaks.unreliable out
  makes_sound status.LogFull out m (inl e) = cc
  makes_sound status.LogFull out m (inr e) = cc
  makes_sound status.NoMemory out m (inl e) = cc
  makes_sound status.NoMemory out m (inr e) = cc
  makes_sound status.No out m is = m
  makes_sound status.Usage out m is = m
  makes_sound status.Refused out m is = m
  makes_sound status.ReadFault out m is = m

module _ (name : List ℕ) (before after : World) (trust : Trust) (reads : NamedSlots) (limit most : ℕ) (IsTextOf : Answer → (bytes said : List ℕ) → Type 0) (s : Status) where
  writes_takes : Writes name before after trust reads limit most IsTextOf s
      → Takes before.out after.out
  writes_takes (inl none) = took_none before.out after.out none.out
  writes_takes (inr wrote) = (wrote.said, wrote.report)

  writes_few : (told : Told) → before.shelf.told ≡ Some told
      → ((answer : Answer) (bytes said : List ℕ) → IsTextOf answer bytes said → length bytes ≤ limit)
      → Writes name before after trust reads limit most IsTextOf s
      → HasWritten limit told after.shelf
  writes_few told tells fits (inl none) = left_told limit told before.shelf after.shelf tells none.leaves
  writes_few told tells fits (inr wrote) = written_told limit told before.shelf after.shelf name wrote.bytes tells wrote.log (fits wrote.answer wrote.bytes wrote.said wrote.text)

  answer_sound : (answer : Answer) → trust.log (Some name) → trust.out
      → SaysEnd name before after trust limit answer → s ≡ status_of_writing limit answer
      → IsFault s → ⊥
  answer_sound (Ok done) log out ends e (inl is) = let f : status.Done ≡ status.ReadFault = sym e ∙ is in cc
  answer_sound (Ok done) log out ends e (inr is) = let f : status.Done ≡ status.WriteFault = sym e ∙ is in cc
  answer_sound (Err why.Log) log out ends e is = ends.1.1 log
  answer_sound (Err why.Out) log out ends e is = ends.1.1 out
  answer_sound (Err why.Full) log out ends e (inl is) = let f : status.LogFull ≡ status.ReadFault = sym e ∙ is in cc
  answer_sound (Err why.Full) log out ends e (inr is) = let f : status.LogFull ≡ status.WriteFault = sym e ∙ is in cc
  answer_sound (Err why.NoMemory) log out ends e (inl is) = let f : status.NoMemory ≡ status.ReadFault = sym e ∙ is in cc
  answer_sound (Err why.NoMemory) log out ends e (inr is) = let f : status.NoMemory ≡ status.WriteFault = sym e ∙ is in cc

  writes_sound : trust.log (Some name) → trust.out
      → Writes name before after trust reads limit most IsTextOf s → IsFault s → ⊥
  writes_sound log out (inl none) is = none.cause.1 log
  writes_sound log out (inr wrote) is = answer_sound wrote.answer log out wrote.ends wrote.status is

-- ---- the commands

-- what a run came to: no fault while both are reliable, and what is left of the room
record IsSafe (limit : ℕ) (log : Option (List ℕ)) (told : Told) (before after : World) (trust : Trust) (s : Status) : Type 0 where
  sound : trust.log None → IfSome log (λ name. trust.log (Some name)) → trust.out → IsFault s → ⊥
  shelf : HasWritten limit told after.shelf
  out : Takes before.out after.out

stop_sound : (n : Notice) (s : Status) → reading.IsOfReading n → s ≡ status_of n
    → (status_of n ≡ status.ReadFault → ⊥) → IsFault s → ⊥
stop_sound n s ends e sound (inl is) = sound (sym e ∙ is)
stop_sound n s (inl refused) e sound (inr is) = let f : status.Refused ≡ status.WriteFault = sym refused ∙ (sym e ∙ is) in cc
stop_sound n s (inr (inl fault)) e sound (inr is) = let f : status.ReadFault ≡ status.WriteFault = sym fault ∙ (sym e ∙ is) in cc
stop_sound n s (inr (inr memory)) e sound (inr is) = let f : status.NoMemory ≡ status.WriteFault = sym memory ∙ (sym e ∙ is) in cc

-- a task that reads files which are there, and then does what is safe
task_safe : {V : Type 0} (task : Task V) (limit : ℕ) (log : Option (List ℕ)) (told : Told) (before after : World) (trust : Trust) (s : Status)
    → before.shelf.told ≡ Some told
    → (trust.log None → NeverFails (MayBreak before.shelf after.shelf trust.log) told.files task.reads)
    → ((v : V) → task.Does v before after trust s → IsSafe limit log told before after trust s)
    → RunOf task before after trust s → IsSafe limit log told before after trust s
task_safe {V} task limit log told before after trust s tells reads does r = elim r.read as (λ read. r.read ≡ read → IsSafe limit log told before after trust s) [
  | Ok v ↦ λ is. does v (subst (Ends task before after trust s) is r.ends)
  | Err n ↦ λ is.
      let stops : Stops task.files before after n s = subst (Ends task before after trust s) is r.ends in
      let found = subst (λ (x : Result V Notice). Found task.reads before.shelf after.shelf trust.log (valued task.value x)) is r.found in
      let files : files_of before.shelf ≡ Some told.files = ap (option_map (λ (t : Told). t.files)) tells in
      let ends : task.reads (MayBreak before.shelf after.shelf trust.log) (Some told.files) (Err n) = subst (λ (f : Option Files). task.reads (MayBreak before.shelf after.shelf trust.log) f (Err n)) files found.reads in
      record {
        sound = λ sure named out. stop_sound n s stops.ends stops.status (reads sure n ends);
        shelf = left_told limit told before.shelf after.shelf tells stops.shelf.leaves;
        out = took_none before.out after.out stops.out;
      }
] refl

tell_safe : (Yes No : List ℕ → Type 0) (reads : NamedSlots) (limit : ℕ) (told : Told) (before after : World) (trust : Trust) (s : Status)
    → before.shelf.told ≡ Some told
    → TellsAlone Yes No reads before after trust s → IsSafe limit None told before after trust s
tell_safe Yes No reads limit told before after trust s tells t = record {
  sound = λ sure named out. told_sound Yes No before after trust s out t.told;
  shelf = left_told limit told before.shelf after.shelf tells t.shelf.leaves;
  out = told_takes Yes No before after trust s t.told;
}

write_safe : (name : List ℕ) (reads : NamedSlots) (limit most : ℕ) (IsTextOf : Answer → (bytes said : List ℕ) → Type 0) (told : Told) (before after : World) (trust : Trust) (s : Status)
    → before.shelf.told ≡ Some told
    → ((answer : Answer) (bytes said : List ℕ) → IsTextOf answer bytes said → length bytes ≤ limit)
    → Writes name before after trust reads limit most IsTextOf s
    → IsSafe limit (Some name) told before after trust s
write_safe name reads limit most IsTextOf told before after trust s tells fits w = record {
  sound = λ sure log out. writes_sound name before after trust reads limit most IsTextOf s log out w;
  shelf = writes_few name before after trust reads limit most IsTextOf s told tells fits w;
  out = writes_takes name before after trust reads limit most IsTextOf s w;
}

-- nothing was done but something said
memory_harmless : (s : Status) → s ≡ status.NoMemory → IsFault s → ⊥
memory_harmless s is (inl e) = let f : status.NoMemory ≡ status.ReadFault = sym is ∙ e in cc
memory_harmless s is (inr e) = let f : status.NoMemory ≡ status.WriteFault = sym is ∙ e in cc

usage_harmless : (s : Status) → s ≡ status.Usage → IsFault s → ⊥
usage_harmless s is (inl e) = let f : status.Usage ≡ status.ReadFault = sym is ∙ e in cc
usage_harmless s is (inr e) = let f : status.Usage ≡ status.WriteFault = sym is ∙ e in cc

same_told : (limit : ℕ) (told : Told) (before after : ShelfState) → before.told ≡ Some told
    → after ≡ before → HasWritten limit told after
same_told limit told before after tells e = record { told = told; tells = ap (λ (s : ShelfState). s.told) e ∙ tells; terms = refl; few = omega arith }

make_safe : (limit seed count : ℕ) (log : Option (List ℕ)) (told : Told) (before after : World) (trust : Trust) (s : Status)
    → before.shelf.told ≡ Some told
    → MakesHere limit seed count before after trust s → after.shelf ≡ before.shelf
    → IsSafe limit log told before after trust s
make_safe limit seed count log told before after trust s tells makes same = record {
  sound = λ sure named out. makes_sound limit seed count before after trust s out makes;
  shelf = same_told limit told before.shelf after.shelf tells same;
  out = makes_takes limit seed count before after trust s makes;
}

only_safe : (n : Notice) (limit : ℕ) (log : Option (List ℕ)) (told : Told) (before after : World) (trust : Trust) (s : Status)
    → before.shelf.told ≡ Some told
    → (s ≡ status_of n → IsFault s → ⊥) → OnlySays n before after s
    → IsSafe limit log told before after trust s
only_safe n limit log told before after trust s tells harmless (is, said, shelf, out) = record {
  sound = λ sure named reliable. harmless is;
  shelf = same_told limit told before.shelf after.shelf tells shelf;
  out = took_none before.out after.out out;
}

module _ (limits : Limits) (told : Told) (before after : World) (trust : Trust) where
  abbrev Sound : {V : Type 0} → Reading V → Type 0
  Sound reads = trust.log None → NeverFails (MayBreak before.shelf after.shelf trust.log) told.files reads

  station_sound : (sought : Sought) (name : Option (List ℕ)) (declared : Option settings.StationValue)
      → IfSome name (IsThere told.files) → Sound (ReadsStation limits sought name declared)
  station_sound sought None declared there = λ sure. returns_sound before.shelf after.shelf trust.log sure limits told.files None
  station_sound sought (Some name) None there = λ sure. returns_sound before.shelf after.shelf trust.log sure limits told.files None
  station_sound sought (Some name) (Some d) there = λ sure.
      let text = station_text sought d.place d.age in
      then_sound before.shelf after.shelf trust.log sure limits told.files (Named limits text name) (λ station. Returns (Some station))
      (named_sound before.shelf after.shelf trust.log sure limits told.files text name there)
      (λ station. returns_sound before.shelf after.shelf trust.log sure limits told.files (Some station))

  receiver_sound : (moving : Bool) (names : words.Files) → AreInputsThere told.files names
      → Sound (ReadsReceiver moving limits names)
  receiver_sound moving names there = λ sure.
      let settings = settings_text moving (is_some names.station) in
      then_sound before.shelf after.shelf trust.log sure limits told.files (Named limits settings names.settings) (ReadsNav limits names)
      (named_sound before.shelf after.shelf trust.log sure limits told.files settings names.settings there.0) (λ s.
      then_sound before.shelf after.shelf trust.log sure limits told.files (Named limits (nav_text (message_of s)) names.nav) (ReadsBehindNav limits names s)
      (named_sound before.shelf after.shelf trust.log sure limits told.files (nav_text (message_of s)) names.nav there.1) (λ records.
      then_sound before.shelf after.shelf trust.log sure limits told.files (ReadsStation limits (sought_of s) names.station s.station) (ReadsObs limits names s records)
      (station_sound (sought_of s) names.station s.station there.3 sure) (λ station.
      let text = obs_text (sought_of s) (wants_position s.centre) names.epochs in
      let value : Observations → InputsValue = λ o. record { settings = s; nav = records; station = station; obs = o; after = None } in
      then_sound before.shelf after.shelf trust.log sure limits told.files (Named limits text names.obs) (λ o. Returns (value o))
      (named_sound before.shelf after.shelf trust.log sure limits told.files text names.obs there.2)
      (λ o. returns_sound before.shelf after.shelf trust.log sure limits told.files (value o)))))

  after_sound : (search : GridBox) (name : Option (List ℕ)) → IfSome name (IsThere told.files)
      → Sound (ReadsAfter limits search name)
  after_sound search None there = λ sure. returns_sound before.shelf after.shelf trust.log sure limits told.files None
  after_sound search (Some name) there = λ sure.
      named_sound before.shelf after.shelf trust.log sure limits told.files (earlier_text search) name there

  inputs_sound : (moving : Bool) (names : words.Files) → AreInputsThere told.files names
      → Sound (ReadsFor moving limits names)
  inputs_sound moving names there = λ sure.
      then_sound before.shelf after.shelf trust.log sure limits told.files (ReadsReceiver moving limits names) (ReadsBehind limits names) (receiver_sound moving names there sure) (λ i.
      let value : Option Before → InputsValue = λ left. record i { after = left } in
      then_sound before.shelf after.shelf trust.log sure limits told.files (ReadsAfter limits (search_of i) names.after) (λ left. Returns (value left))
      (after_sound (search_of i) names.after there.4 sure)
      (λ left. returns_sound before.shelf after.shelf trust.log sure limits told.files (value left)))

  check_sound : (moving : Bool) (names : words.Files)
      → AreInputsThere told.files names × IsThere told.files names.log
      → Sound (ReadsCheckedFor moving limits names)
  check_sound moving names there = λ sure.
      then_sound before.shelf after.shelf trust.log sure limits told.files (ReadsFor moving limits names) (ReadsLog limits names.log) (inputs_sound moving names there.0 sure) (λ i.
      let value : LogValue → CheckedValue = λ l. record { inputs = i; log = l } in
      then_sound before.shelf after.shelf trust.log sure limits told.files (Named limits log_text names.log) (λ l. Returns (value l))
      (named_sound before.shelf after.shelf trust.log sure limits told.files log_text names.log there.1)
      (λ l. returns_sound before.shelf after.shelf trust.log sure limits told.files (value l)))

  guard_sound : (moving : Bool) (names : words.Files) (zones : List ℕ)
      → AreInputsThere told.files names × (IsThere told.files zones × IsThere told.files names.log)
      → Sound (ReadsGuarded moving limits names zones)
  guard_sound moving names zones there = λ sure.
      then_sound before.shelf after.shelf trust.log sure limits told.files (ReadsFor moving limits names) (ReadsZones limits zones names.log) (inputs_sound moving names there.0 sure) (λ i.
      then_sound before.shelf after.shelf trust.log sure limits told.files (Named limits zones_text zones) (ReadsLogBehind limits names.log i)
      (named_sound before.shelf after.shelf trust.log sure limits told.files zones_text zones there.1.0) (λ z.
      then_sound before.shelf after.shelf trust.log sure limits told.files (Named limits log_text names.log) (λ l. Returns (guarded_by i z l))
      (named_sound before.shelf after.shelf trust.log sure limits told.files log_text names.log there.1.1)
      (λ l. returns_sound before.shelf after.shelf trust.log sure limits told.files (guarded_by i z l))))

  obeys_safe : (command : Command) (s : Status) → before.shelf.told ≡ Some told
      → AreThere told.files command → Obeys limits (Some command) before after trust s
      → IsSafe limits.log (written_by command) told before after trust s
  obeys_safe (Judge log) s tells there r =
      task_safe (judging limits log) limits.log None told before after trust s tells
      (λ sure. named_sound before.shelf after.shelf trust.log sure limits told.files log_text log there)
      (λ v does. tell_safe _ _ _ limits.log told before after trust s tells does) r
  obeys_safe (Pave rows log quiet) s tells there r =
      task_safe (paving limits rows log) limits.log (Some log) told before after trust s tells
      (λ sure. named_sound before.shelf after.shelf trust.log sure limits told.files rows_text rows there)
      (λ v does. write_safe log _ limits.log _ (IsPaved (log_value v) limits.log) told before after trust s tells (λ answer bytes said t. text_fits of_rows v.rules (log_value v).blocks t.0 limits.log answer bytes said t.1) does) r
  obeys_safe (Solve names quiet) s tells there r =
      task_safe (solving limits names) limits.log (Some names.log) told before after trust s tells (inputs_sound false names there)
      (λ v does. write_safe names.log _ limits.log _ (IsSolution (chosen_in names) v limits.log) told before after trust s tells (solution_fits (chosen_in names) v limits.log) does) r
  obeys_safe (Check names) s tells there r =
      task_safe (checking limits names) limits.log None told before after trust s tells (check_sound false names there)
      (λ v does. tell_safe _ _ _ limits.log told before after trust s tells does) r
  obeys_safe (Track names quiet) s tells there r =
      task_safe (tracking limits names) limits.log (Some names.log) told before after trust s tells (inputs_sound true names there)
      (λ v does. write_safe names.log _ limits.log _ (IsTrack (chosen_in names) v limits.log) told before after trust s tells (track_fits (chosen_in names) v limits.log) does) r
  obeys_safe (Retrack names) s tells there r =
      task_safe (rechecking limits names) limits.log None told before after trust s tells (check_sound true names there)
      (λ v does. tell_safe _ _ _ limits.log told before after trust s tells does) r
  obeys_safe (Guard names zones tracked) s tells there r =
      task_safe (guarding limits names zones tracked) limits.log None told before after trust s tells (guard_sound tracked names zones there)
      (λ v does. tell_safe _ _ _ limits.log told before after trust s tells does) r
  obeys_safe (Make seed epochs) s tells there r =
      make_safe limits.log seed epochs None told before after trust s tells r.0 r.1

-- the same with no report: then `out` is as it was
quietly_safe : (quiet : Bool) (limits : Limits) (told : Told) (before after : World) (trust : Trust) (command : Command) (s : Status)
    → before.shelf.told ≡ Some told → AreThere told.files command
    → Quietly quiet (λ b a t. Obeys limits (Some command) b a t s) before after trust
    → IsSafe limits.log (written_by command) told before after trust s
quietly_safe false limits told before after trust command s tells there obeys = obeys_safe limits told before after trust command s tells there obeys
quietly_safe true limits told before after trust command s tells there (obeys, same) =
    let safe = obeys_safe limits told (muted before) (muted after) (muted_trust trust) command s tells there obeys in
    record {
      sound = λ sure named out. safe.sound sure named tt;
      shelf = safe.shelf;
      out = took_none before.out after.out same;
    }

module _ (limits : Limits) (told : Told) (before after : World) (trust : Trust) where
  run_safe : (command : Command) (s : Status) → before.shelf.told ≡ Some told
      → AreThere told.files command → Runs limits (Some command) before after trust s
      → IsSafe limits.log (written_by command) told before after trust s
  run_safe command s tells there (inl only) = only_safe notice.NoMemory limits.log (written_by command) told before after trust s tells (memory_harmless s) only
  run_safe command s tells there (inr obeys) = quietly_safe (asks_quiet (Some command)) limits told before after trust command s tells there obeys

-- ---- objects in memory

-- what their `room` says behind the run
pub record SaysRoom (after : World) (trust : Trust) (room out_room : ℕ) : Type 0 where
  pub left : (t : Told) → after.shelf.told ≡ Some t → t.written + room ≡ t.terms.room
  pub sure : (t : Told) → after.shelf.told ≡ Some t → t.terms.fails ≡ []
      → trust.log None × (0 < room → trust.log (Some t.terms.log))
  pub out_left : (t : SinkTold) → after.out.told ≡ Some t → length t.bytes + out_room ≡ t.terms.room
  pub out_sure : (t : SinkTold) → after.out.told ≡ Some t → t.terms.fails ≡ [] → 0 < out_room
      → trust.out

named_sure : (log : Option (List ℕ)) (name : List ℕ) (reliable : Option (List ℕ) → Type 0)
    → IfSome log (λ of. name ≡ of) → reliable (Some name) → IfSome log (λ of. reliable (Some of))
named_sure None name reliable is sure = tt
named_sure (Some of) name reliable is sure = subst (λ (n : List ℕ). reliable (Some n)) is sure

no_fault : (limits : Limits) (command : Command) (before after : World) (trust : Trust) (s : Status) (room out_room : ℕ)
    → IsReady command before.shelf before.out
    → Runs limits (Some command) before after trust s → SaysRoom after trust room out_room
    → HasShelfRoom after.shelf → HasSinkRoom after.out → IsFault s → ⊥
no_fault limits command before after trust s room out_room ready runs says has left fault =
    let safe = run_safe limits ready.told before after trust command s ready.tells ready.there runs in
    let shelf = safe.shelf in
    let fails : shelf.told.terms.fails ≡ [] = ap (λ (t : ShelfTerms). t.fails) shelf.terms ∙ ready.sure in
    let sure = says.sure shelf.told shelf.tells fails in
    let some : 0 < room = omega (arith, says.left shelf.told shelf.tells, has shelf.told shelf.tells) in
    let name : trust.log (Some ready.told.terms.log) = subst (λ (t : ShelfTerms). trust.log (Some t.log)) shelf.terms (sure.1 some) in
    let took = safe.out in
    let out_told = taking took.0 ready.out_told in
    let out_tells : after.out.told ≡ Some out_told = took.1 ∙ ap (option_map (taking took.0)) ready.out_tells in
    let out_some : 0 < out_room = omega (arith, says.out_left out_told out_tells, left out_told out_tells) in
    let out = says.out_sure out_told out_tells ready.out_sure out_some in
    safe.sound sure.0 (named_sure (written_by command) ready.told.terms.log trust.log ready.log name) out fault

-- no command is no fault
usage_no_fault : (limits : Limits) (before after : World) (trust : Trust) (s : Status)
    → Runs limits None before after trust s → IsFault s → ⊥
usage_no_fault limits before after trust s (inl only) = memory_harmless s only.0
usage_no_fault limits before after trust s (inr only) = usage_harmless s only.0

pub no_fault_of : (limits : Limits) (asked : Option Command) (before after : World) (trust : Trust) (s : Status) (room out_room : ℕ)
    → IfSome asked (λ command. IsReady command before.shelf before.out)
    → Runs limits asked before after trust s → SaysRoom after trust room out_room
    → HasShelfRoom after.shelf → HasSinkRoom after.out → IsFault s → ⊥
no_fault_of limits None before after trust s room out_room ready runs says has left = usage_no_fault limits before after trust s runs
no_fault_of limits (Some command) before after trust s room out_room ready runs says has left = no_fault limits command before after trust s room out_room ready runs says has left

-- ---- the room that is left

written_room : (limit : ℕ) (told : Told) (before after : ShelfState) → before.told ≡ Some told
    → HasWritten limit told after → HasRoomBeyond limit before → HasShelfRoom after
written_room limit told before after tells wrote room = λ t is.
    let same : t ≡ wrote.told = cc in
    let most : ◌≡◌ {A = ℕ} wrote.told.terms.room told.terms.room = ap (λ (x : ShelfTerms). x.room) wrote.terms in
    subst (λ (x : Told). x.written < x.terms.room) (sym same) (omega (arith, wrote.few, room told tells, most))

unchanged_room : (limit : ℕ) (before after : ShelfState) → after ≡ before
    → HasRoomBeyond limit before → HasShelfRoom after
unchanged_room limit before after e room = λ t is. let had = room t (ap (λ (s : ShelfState). s.told) (sym e) ∙ is) in omega (arith, had)

usage_unchanged : (limits : Limits) (before after : World) (trust : Trust) (s : Status)
    → Runs limits None before after trust s → after.shelf ≡ before.shelf
usage_unchanged limits before after trust s (inl only) = only.2
usage_unchanged limits before after trust s (inr only) = only.2

pub room_left : (limits : Limits) (asked : Option Command) (before after : World) (trust : Trust) (s : Status)
    → IfSome asked (λ command. IsReady command before.shelf before.out)
    → Runs limits asked before after trust s → HasRoomBeyond limits.log before.shelf
    → HasShelfRoom after.shelf
room_left limits None before after trust s ready runs = unchanged_room limits.log before.shelf after.shelf (usage_unchanged limits before after trust s runs)
room_left limits (Some command) before after trust s ready runs =
    let safe = run_safe limits ready.told before after trust command s ready.tells ready.there runs in
    written_room limits.log ready.told before.shelf after.shelf ready.tells safe.shelf
