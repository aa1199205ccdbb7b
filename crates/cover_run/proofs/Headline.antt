-- A log that was written of files is accepted where it is checked with the same files: one that was
-- solved, and a track.
use Rattle.std.proofs.Common.{◌≡◌, ◌⊎◌, ◌≤◌, ℕ, Bool, true, false, List, length, Option, None, Some, Result, Ok}
use Rattle.std.proofs.Common.{Err}
use Rattle.std.proofs.Common.{inl, inr, refl, sym, ap, subst, ◌∙◌, arith}
use Rattle.std.specs.Prelude.{◌≢◌, IfSome, is_some}
use Rattle.std.specs.FinMap as map
use Rattle.std.specs.Option.{option_map}
use Rattle.command_words.specs.Commands as words
use Rattle.input_files.proofs.GrammarLemmas.{no_first}
use Rattle.error_bounds.specs.Texts as settings
use Rattle.rinex_nav.specs.Records.{Broadcast}
use Rattle.rinex_obs.specs.declared.sought.Sought.{Sought}
use Rattle.grid_model.specs.Boxes.{GridBox}
use Rattle.input_files.specs.Earlier.{earlier_text}
use Rattle.input_files.specs.Inputs.{InputsValue, ReadsAfter, ReadsBehind, ReadsBehindNav, ReadsFor, ReadsNav, ReadsObs, ReadsReceiver, ReadsStation, StationValue}
use Rattle.input_files.specs.Inputs.{input_files, inputs_value, message_of, nav_text, obs_text}
use Rattle.moving_tube.specs.Roots.{Before}
use Rattle.input_files.specs.Inputs.{search_of, settings_text, sought_of, station_text, wants_position}
use Rattle.input_files.specs.Logs.{log_text}
use Rattle.input_files.specs.Reading.{IsBrokenOff, MayBreak, NeverBreaks, ReadsFile, Settles, Text}
use Rattle.input_files.specs.Reading.{file_in, limit_of, valued}
use Rattle.input_files.specs.Statuses.{status_of}
use Rattle.input_files.specs.declared.inputs.Inputs.{Inputs}
use Rattle.input_files.specs.declared.limits.Limits.{Limits}
use Rattle.input_files.specs.declared.notice.Notice.{Notice}
use Rattle.input_files.specs.declared.role.Role.{Role}
use Rattle.input_files.specs.declared.role.Role.TheVariants as role
use Rattle.input_files.specs.declared.status.Status.{Status}
use Rattle.input_files.specs.declared.status.Status.TheVariants as status
use Rattle.log_writer.specs.Writing.{Trust}
use Rattle.outer_io.proofs.Covering.{get-other, get-log}
use Rattle.outer_io.specs.Told.{Files, files_of}
use Rattle.paving_log.specs.Faults.{FirstFault}
use Rattle.log_lines.specs.Text.{IsLogText}
use Rattle.paving_log.specs.Values.{log_value}
use Rattle.sat_model.specs.Logs.{LogValue}
use Rattle.cover_run.proofs.AcceptLemmas.{not_refused, track_not_refused}
use Rattle.cover_run.proofs.RunLemmas.{stopped_not_done}
use Rattle.cover_run.proofs.TaskLemmas.{checked_fair}
use Rattle.cover_run.specs.Accepting.{AreApart, RunsQuietlyThen, RunsThen, SolvesThenChecks, TracksThenRechecks}
use Rattle.cover_run.specs.Chosen.{chosen_in}
use Rattle.cover_run.specs.Checking.{CheckedValue, ReadsCheckedFor, SaysAccepted}
use Rattle.cover_run.specs.Checking.{SaysRefused, checked_files, checked_value}
use Rattle.cover_run.specs.Rechecking.{SaysTracked, SaysUntracked}
use Rattle.cover_run.specs.Runs.{Ends, IsVerdict, IsWritten, Task, TellsAlone, muted, muted_trust}
use Rattle.cover_run.specs.Solving.{IsSolution, most_of}
use Rattle.cover_run.specs.Telling.{Tells, sinks}
use Rattle.cover_run.specs.Tracking.{IsTrack}
use Rattle.cover_run.specs.Worlds.{World}
use Rattle.cover_run.specs.Writing.{Answer, Writes, status_of_writing}
use Rattle.cover_run.specs.declared.checked.Checked.{Checked}
use Rattle.log_writer.specs.declared.fault.WriteFault.TheVariants as why

-- ---- the files behind the log

module _ (moving : Bool) (limits : Limits) (names : words.Files) (bytes : List ℕ) (told : Files)
    (apart : AreApart names) where
  abbrev log : List ℕ
  log = names.log

  abbrev later : Files
  later = map.insert told log bytes

  still : {V : Type 0} (text : Text V) (name : List ℕ) (r : Result text.Value Notice) → name ≢ log
      → ReadsFile text (limit_of limits text.role) NeverBreaks (file_in (Some later) name) r
      → ReadsFile text (limit_of limits text.role) NeverBreaks (file_in (Some told) name) r
  still text name r other reads = subst
      (λ (f : Option (Option (List ℕ))).
      ReadsFile text (limit_of limits text.role) NeverBreaks f r)
      (ap Some (get-other told log name (Some bytes) other)) reads

  station_before : (sought : Sought) (name : Option (List ℕ)) (declared : Option settings.StationValue)
      → IfSome name (λ n. n ≢ log) → (r : Result (Option StationValue) Notice)
      → ReadsStation limits sought name declared NeverBreaks (Some later) r
      → ReadsStation limits sought name declared NeverBreaks (Some told) r
  station_before sought None declared other r reads = reads
  station_before sought (Some name) None other r reads = reads
  station_before sought (Some name) (Some d) other r (inl (v, is, e)) =
      inl (v, still (station_text sought d.place d.age) name (Ok v) other is, e)
  station_before sought (Some name) (Some d) other r (inr (n, is, e)) =
      inr (n, still (station_text sought d.place d.age) name (Err n) other is, e)

  obs_before : (s : settings.SettingsValue) (records : List Broadcast) (station : Option StationValue)
      (r : Result InputsValue Notice) → ReadsObs limits names s records station NeverBreaks (Some later) r
      → ReadsObs limits names s records station NeverBreaks (Some told) r
  obs_before s records station r (inl (o, is, e)) =
      inl (o, still (obs_text (sought_of s) (wants_position s.centre) names.epochs) names.obs (Ok o) apart.obs is, e)
  obs_before s records station r (inr (n, is, e)) =
      inr (n, still (obs_text (sought_of s) (wants_position s.centre) names.epochs) names.obs (Err n) apart.obs is, e)

  behind_nav_before : (s : settings.SettingsValue) (records : List Broadcast)
      (r : Result InputsValue Notice) → ReadsBehindNav limits names s records NeverBreaks (Some later) r
      → ReadsBehindNav limits names s records NeverBreaks (Some told) r
  behind_nav_before s records r (inl (station, is, more)) = inl (
    station,
    station_before (sought_of s) names.station s.station apart.station (Ok station) is,
    obs_before s records station r more,
  )
  behind_nav_before s records r (inr (n, is, e)) =
      inr (n, station_before (sought_of s) names.station s.station apart.station (Err n) is, e)

  nav_before : (s : settings.SettingsValue) (r : Result InputsValue Notice)
      → ReadsNav limits names s NeverBreaks (Some later) r → ReadsNav limits names s NeverBreaks (Some told) r
  nav_before s r (inl (records, is, more)) = inl (
    records,
    still (nav_text (message_of s)) names.nav (Ok records) apart.nav is,
    behind_nav_before s records r more,
  )
  nav_before s r (inr (n, is, e)) = inr (n, still (nav_text (message_of s)) names.nav (Err n) apart.nav is, e)

  receiver_before : (r : Result InputsValue Notice)
      → ReadsReceiver moving limits names NeverBreaks (Some later) r
      → ReadsReceiver moving limits names NeverBreaks (Some told) r
  receiver_before r (inl (s, is, more)) = inl (
    s,
    still (settings_text moving (is_some names.station)) names.settings (Ok s) apart.settings is,
    nav_before s r more,
  )
  receiver_before r (inr (n, is, e)) =
      inr (n, still (settings_text moving (is_some names.station)) names.settings (Err n) apart.settings is, e)

  after_before : (search : GridBox) (name : Option (List ℕ)) → IfSome name (λ n. n ≢ log)
      → (r : Result (Option Before) Notice) → ReadsAfter limits search name NeverBreaks (Some later) r
      → ReadsAfter limits search name NeverBreaks (Some told) r
  after_before search None other r reads = reads
  after_before search (Some name) other r reads = still (earlier_text search) name r other reads

  behind_before : (i : InputsValue) (r : Result InputsValue Notice)
      → ReadsBehind limits names i NeverBreaks (Some later) r
      → ReadsBehind limits names i NeverBreaks (Some told) r
  behind_before i r (inl (left, is, e)) =
      inl (left, after_before (search_of i) names.after apart.after (Ok left) is, e)
  behind_before i r (inr (n, is, e)) =
      inr (n, after_before (search_of i) names.after apart.after (Err n) is, e)

  inputs_before : (r : Result InputsValue Notice)
      → ReadsFor moving limits names NeverBreaks (Some later) r
      → ReadsFor moving limits names NeverBreaks (Some told) r
  inputs_before r (inl (i, is, more)) = inl (i, receiver_before (Ok i) is, behind_before i r more)
  inputs_before r (inr (n, is, e)) = inr (n, receiver_before (Err n) is, e)

  -- ---- the log is read as it was written

  log_there : file_in (Some later) log ≡ Some (Some bytes)
  log_there = ap Some (get-log told log log (Some bytes) refl refl)

  log_is : (value : LogValue) → ReadsFile log_text limits.log NeverBreaks (Some (Some bytes))
      (Ok value)
      → IsLogText value bytes
  log_is value (inl (inl (within, text))) = text
  log_is value (inl (inr (long, e))) = cc
  log_is value (inr (n, e, there, breaks)) = absurd breaks

  module _ (i : Inputs) (written : LogValue) (is_text : IsLogText written bytes)
      (fits : length bytes ≤ limits.log)
      (same : (other : Result InputsValue Notice)
      → ReadsFor moving limits names NeverBreaks (Some told) other
      → Settles (Ok (inputs_value i)) other) where
    log_read : (n : Notice)
        → ReadsFile log_text limits.log NeverBreaks (Some (Some bytes)) (Err n) → ⊥
    log_read n (inl (inl (within, refused))) =
        no_first role.Log IsLogText FirstFault bytes written is_text n refused.1
    log_read n (inl (inr (long, e))) = absurd (omega (arith, long, fits))
    log_read n (inr (k, e, there, breaks)) = breaks

    same_inputs : (v : InputsValue) → ReadsFor moving limits names NeverBreaks (Some later) (Ok v)
        → inputs_value i ≡ v
    same_inputs v reads = elim (same (Ok v) (inputs_before (Ok v) reads)) [
      | inl none ↦ absurd none
      | inr is ↦ is
    ]

    inputs_read : (n : Notice) → ReadsFor moving limits names NeverBreaks (Some later) (Err n) → ⊥
    inputs_read n reads = elim (same (Err n) (inputs_before (Err n) reads)) [
      | inl none ↦ none
      | inr none ↦ none
    ]

    -- the same values are read again
    pub record IsReadAgain (v : CheckedValue) : Type 0 where
      pub inputs : inputs_value i ≡ v.inputs
      pub text : IsLogText v.log bytes

    at_log : (r : Result LogValue Notice)
        → ReadsFile log_text limits.log NeverBreaks (file_in (Some later) log) r
        → ReadsFile log_text limits.log NeverBreaks (Some (Some bytes)) r
    at_log r reads = subst (λ (f : Option (Option (List ℕ))).
        ReadsFile log_text limits.log NeverBreaks f r) log_there reads

    read_again : (v : CheckedValue)
        → ReadsCheckedFor moving limits names NeverBreaks (Some later) (Ok v)
        → IsReadAgain v
    read_again v (inr (n, is, e)) = cc
    read_again v (inl (w, is, inr (n, has, e))) = cc
    read_again v (inl (w, is, inl (value, has, e))) =
        let made : v ≡ record { inputs = w; log = value } = cc in
        subst IsReadAgain (sym made)
        (record { inputs = same_inputs w is; text = log_is value (at_log (Ok value) has) })

    read_ends : (n : Notice) → ReadsCheckedFor moving limits names NeverBreaks (Some later) (Err n)
        → ⊥
    read_ends n (inr (k, is, e)) = inputs_read k is
    read_ends n (inl (w, is, inr (k, has, e))) = log_read k (at_log (Err k) has)
    read_ends n (inl (w, is, inl (value, has, e))) = cc

-- ---- the status

-- want of memory, or a fault of a shelf or sink that isn't reliable
abbrev IsLost : Trust → Status → Type 0
IsLost trust s = (s ≡ status.NoMemory) ⊎ (IsBrokenOff s × (trust.log None → trust.out → ⊥))

-- What is written of inputs, and what is said of a log by them: what was written isn't refused.
pub record Pair (names : words.Files) : Type 1 where
  pub moving : Bool
  pub Written : Inputs → ℕ → Answer → (bytes said : List ℕ) → Type 0
  pub Accepted : Checked → List ℕ → Type 0
  pub Refused : Checked → List ℕ → Type 0
  pub log : (i : Inputs) (limit : ℕ) (bytes said : List ℕ) → Written i limit (Ok tt) bytes said
      → LogValue
  pub text : (i : Inputs) (limit : ℕ) (bytes said : List ℕ)
      (w : Written i limit (Ok tt) bytes said) → IsLogText (log i limit bytes said w) bytes
  pub fits : (i : Inputs) (limit : ℕ) (bytes said : List ℕ)
      → Written i limit (Ok tt) bytes said → length bytes ≤ limit
  pub not_refused : (i : Inputs) (limit : ℕ) (bytes said : List ℕ) (f : Checked)
      (line : List ℕ) → inputs_value i ≡ inputs_value f.inputs
      → Written i limit (Ok tt) bytes said → IsLogText (log_value f.log) bytes
      → Refused f line → ⊥

module _ (limits : Limits) (names : words.Files) (p : Pair names) where
  abbrev pub writer : Task Inputs
  writer = record {
    Value = InputsValue;
    value = inputs_value;
    files = input_files names;
    reads = ReadsFor p.moving limits names;
    Does = λ i before after trust. Writes names.log before after trust (input_files names) limits.log
        (most_of (chosen_in names) i)
        (p.Written i limits.log);
    Suits = λ i s. IsWritten s;
  }

  abbrev pub reader : Task Checked
  reader = record {
    Value = CheckedValue;
    value = checked_value;
    files = checked_files names;
    reads = ReadsCheckedFor p.moving limits names;
    Does = λ read. TellsAlone (p.Accepted read) (p.Refused read) (checked_files names);
    Suits = λ found s. IsVerdict s;
  }

module _ (limits : Limits) (names : words.Files) (p : Pair names) (a b c d : World)
    (solver checker : Trust) (s : Status)
    (runs : RunsThen (writer limits names p) (reader limits names p) names a b c d solver checker s)
  where
    abbrev Breaking : Role → Notice → Type 0
    Breaking = MayBreak c.shelf d.shelf checker.log

    of_break : (of : Role) (n : Notice) → s ≡ status_of n → Breaking of n → IsLost checker s
    of_break of n is (inl m) = inl (is ∙ ap status_of m)
    of_break of n is (inr (m, counted)) =
        inr (inl (is ∙ ap status_of m), λ reads prints. counted.unreliable None reads)

    module _ (i : Inputs) (bytes said : List ℕ)
        (solved : p.Written i limits.log (Ok tt) bytes said)
        (rewritten : files_of b.shelf
        ≡ option_map (λ fs. map.insert fs names.log bytes) (files_of a.shelf))
        (same : (other : Result InputsValue Notice)
        → ReadsFor p.moving limits names NeverBreaks (Some runs.told) other
        → Settles (Ok (inputs_value i)) other) where
      abbrev behind : Files
      behind = map.insert runs.told names.log bytes

      abbrev Read : Result CheckedValue Notice → Type 0
      Read r = ReadsCheckedFor p.moving limits names Breaking (Some behind) r

      read_behind : Read (valued checked_value runs.checks.read)
      read_behind =
          let files = runs.keeps ∙ rewritten
          ∙ ap (option_map (λ fs. map.insert fs names.log bytes)) runs.are_told in
          subst (λ (f : Option Files).
          ReadsCheckedFor p.moving limits names Breaking f (valued checked_value runs.checks.read)) files
          runs.checks.found.reads

      not_said : (f : Checked) (line : List ℕ) → Read (Ok (checked_value f)) → p.Refused f line → ⊥
      not_said f line reads refused =
          let given = (checked_fair limits names p.moving).value Breaking NeverBreaks (Some behind)
          (checked_value f) reads in
          let again = read_again p.moving limits names bytes runs.told runs.apart i
          (p.log i limits.log bytes said solved) (p.text i limits.log bytes said solved)
          (p.fits i limits.log bytes said solved) same (checked_value f) given in
          p.not_refused i limits.log bytes said f line again.inputs solved again.text refused

      told_is : (f : Checked) (t : Status) → Read (Ok (checked_value f))
          → Tells (p.Accepted f) (p.Refused f) (sinks c.out c.err) (sinks d.out d.err) checker.out t
          → IsLost checker t ⊎ (t ≡ status.Done)
      told_is f status.Done reads told = inr refl
      told_is f status.No reads told = absurd (not_said f told.0 reads told.1)
      told_is f status.WriteFault reads told =
          inl (inr (inr (inl refl), λ reliable prints. told.2.unreliable prints))
      told_is f status.NoMemory reads told = inl (inl refl)
      told_is f status.Usage reads told = absurd told
      told_is f status.Refused reads told = absurd told
      told_is f status.ReadFault reads told = absurd told
      told_is f status.LogFull reads told = absurd told

      status_is : (read : Result Checked Notice) → Read (valued checked_value read)
          → Ends (reader limits names p) c d checker s read → IsLost checker s ⊎ (s ≡ status.Done)
      status_is (Ok f) reads ends = told_is f s reads ends.told
      status_is (Err n) reads ends =
          elim ((checked_fair limits names p.moving).ends Breaking (Some behind) n reads) [
            | inl given ↦ absurd (read_ends p.moving limits names bytes runs.told runs.apart i
                (p.log i limits.log bytes said solved) (p.text i limits.log bytes said solved)
                (p.fits i limits.log bytes said solved) same n given)
            | inr broken ↦ inl (of_break broken.0 n ends.status broken.1)
          ]

      ends_so : IsLost checker s ⊎ (s ≡ status.Done)
      ends_so = status_is runs.checks.read read_behind runs.checks.ends

    -- ---- what was solved

    whole_of : (i : Inputs) (bytes said : List ℕ) (answer : Answer)
        → status.Done ≡ status_of_writing limits.log answer
        → p.Written i limits.log answer bytes said → p.Written i limits.log (Ok tt) bytes said
    whole_of i bytes said (Ok done) e text = text
    whole_of i bytes said (Err why.Log) e text = cc
    whole_of i bytes said (Err why.Out) e text = cc
    whole_of i bytes said (Err why.Full) e text = cc
    whole_of i bytes said (Err why.NoMemory) e text = cc

    solved_so : (i : Inputs)
        → ((other : Result InputsValue Notice)
        → ReadsFor p.moving limits names NeverBreaks (Some runs.told) other
        → Settles (Ok (inputs_value i)) other)
        → (writer limits names p).Does i a b solver status.Done
        → IsLost checker s ⊎ (s ≡ status.Done)
    solved_so i same (inl none) = let e : status.Done ≡ status.WriteFault = none.status in cc
    solved_so i same (inr wrote) =
        ends_so i wrote.bytes wrote.said
        (whole_of i wrote.bytes wrote.said wrote.answer wrote.status wrote.text) wrote.log.files same

    read_so : (read : Result Inputs Notice)
        → ((other : Result InputsValue Notice)
        → ReadsFor p.moving limits names NeverBreaks (Some runs.told) other
        → Settles (valued inputs_value read) other)
        → Ends (writer limits names p) a b solver status.Done read
        → IsLost checker s ⊎ (s ≡ status.Done)
    read_so (Ok i) same ends = solved_so i same ends
    read_so (Err n) same ends = absurd (stopped_not_done n ends.ends (sym ends.status))

    is_so : IsLost checker s ⊎ (s ≡ status.Done)
    is_so = read_so runs.solves.read
        (λ other given. runs.solves.found.same runs.told other runs.are_told given) runs.solves.ends

    pub accepted_by : IsBrokenOff s ⊎ (s ≡ status.Done)
    accepted_by = elim is_so [
      | inl lost ↦ elim lost [ inl m ↦ inl (inr (inr m)) | inr broken ↦ inl broken.0 ]
      | inr done ↦ inr done
    ]

    pub certain_by : checker.log None → checker.out → (s ≡ status.NoMemory) ⊎ (s ≡ status.Done)
    certain_by reads prints = elim is_so [
      | inl lost ↦ elim lost [ inl m ↦ inl m | inr broken ↦ absurd (broken.1 reads prints) ]
      | inr done ↦ inr done
    ]

-- ---- both pairs

module _ (names : words.Files) where
  abbrev pub solve_and_check : Pair names
  solve_and_check = record {
    moving = false;
    Written = IsSolution (chosen_in names);
    Accepted = SaysAccepted (chosen_in names);
    Refused = SaysRefused (chosen_in names);
    log = λ i limit bytes said w. w.whole.log;
    text = λ i limit bytes said w. w.whole.text;
    fits = λ i limit bytes said w. w.whole.fits;
    not_refused = λ i limit bytes said f line same w text refused.
        not_refused (chosen_in names) i f.inputs limit bytes said (log_value f.log) refused.0 same w
        text refused.1;
  }

  abbrev pub track_and_recheck : Pair names
  track_and_recheck = record {
    moving = true;
    Written = IsTrack (chosen_in names);
    Accepted = SaysTracked (chosen_in names);
    Refused = SaysUntracked (chosen_in names);
    log = λ i limit bytes said w. w.track.whole.log;
    text = λ i limit bytes said w. w.track.whole.text;
    fits = λ i limit bytes said w. w.track.whole.fits;
    not_refused = λ i limit bytes said f line same w text refused.
        track_not_refused (chosen_in names) i f.inputs limit bytes said (log_value f.log) refused.0
        same w text refused.1;
  }

module _ (limits : Limits) (names : words.Files) (a b c d : World) (solver checker : Trust)
    (s : Status) where
  -- the same where the first was quiet
  module _ (p : Pair names) where
    abbrev Runs : Type 0
    Runs = RunsQuietlyThen (writer limits names p) (reader limits names p) names a b c d solver
        checker s

    accepted_both : Runs → IsBrokenOff s ⊎ (s ≡ status.Done)
    accepted_both (false, runs) = accepted_by limits names p a b c d solver checker s runs
    accepted_both (true, (runs, same)) = accepted_by limits names p (muted a) (muted b) c d
        (muted_trust solver) checker s runs

    certain_both : Runs → checker.log None → checker.out
        → (s ≡ status.NoMemory) ⊎ (s ≡ status.Done)
    certain_both (false, runs) = certain_by limits names p a b c d solver checker s runs
    certain_both (true, (runs, same)) = certain_by limits names p (muted a) (muted b) c d
        (muted_trust solver) checker s runs

  pub accepted : SolvesThenChecks limits names a b c d solver checker s
      → IsBrokenOff s ⊎ (s ≡ status.Done)
  accepted = accepted_both (solve_and_check names)

  pub certain : SolvesThenChecks limits names a b c d solver checker s
      → checker.log None → checker.out → (s ≡ status.NoMemory) ⊎ (s ≡ status.Done)
  certain = certain_both (solve_and_check names)

  pub track_accepted : TracksThenRechecks limits names a b c d solver checker s
      → IsBrokenOff s ⊎ (s ≡ status.Done)
  track_accepted = accepted_both (track_and_recheck names)

  pub track_certain : TracksThenRechecks limits names a b c d solver checker s
      → checker.log None → checker.out → (s ≡ status.NoMemory) ⊎ (s ≡ status.Done)
  track_certain = certain_both (track_and_recheck names)
