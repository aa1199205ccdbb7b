-- A log that was created and written.
use Rattle.std.proofs.Common.{◌≡◌, ◌⊎◌, ℕ, ◌+◌, ◌≤◌, List, [], ◌∷◌, ◌++◌, length}
use Rattle.std.proofs.Common.{Option, None, Some, Ok, Err, inl, inr, refl, ap}
use Rattle.std.proofs.Common.{subst, ◌∙◌, arith}
use Rattle.std.specs.Prelude.{◌≢◌}
use Rattle.std.specs.FinMap as map
use Rattle.std.specs.Option.{option_map}
use Rattle.input_files.specs.Reading.{IsBrokenOff, LeavesFiles, NamedSlots, OnlyReads}
use Rattle.input_files.specs.declared.notice.Notice.TheVariants as notice
use Rattle.input_files.specs.declared.status.Status.{Status}
use Rattle.input_files.specs.declared.status.Status.TheVariants as status
use Rattle.log_writer.specs.Writing.{Counts, Sent, Trust, Trusts, devices}
use Rattle.log_writer.specs.Sizes.{HasRoom}
use Rattle.log_writer.specs.declared.fault.WriteFault.{WriteFault}
use Rattle.log_writer.specs.declared.fault.WriteFault.TheVariants as why
use Rattle.outer_io.proofs.Appending.{insert-insert, content-insert}
use Rattle.outer_io.specs.Causes.{Rose}
use Rattle.outer_io.specs.Taken.{SinkState, TakenBy}
use Rattle.outer_io.specs.Told.{ShelfState, Told, appended, content, created, opened}
use Rattle.outer_io.specs.declared.shelf.Phase.{Phase}
use Rattle.outer_io.specs.declared.slots.Slot.TheVariants.{Log}
use Rattle.cover_run.specs.Runs.{IsWritten}
use Rattle.cover_run.specs.Writing.{notice_of_fault}
use Rattle.cover_run.specs.Worlds.{World, Says, Rewrites}
use Rattle.cover_run.specs.Writing.{Answer, IsCause, OpensLog, SaysEnd, Writes}
use Rattle.cover_run.specs.Writing.{WritesLog}
use Rattle.cover_run.specs.Writing.{status_of_writing}

-- ---- the file

file_is : (t : Told) (name bytes : List ℕ)
    → (appended Log bytes (created name Log t)).files ≡ map.insert t.files name bytes
file_is t name [] = refl
file_is t name (b ∷ bytes) =
    insert-insert t.files name [] (content (map.insert t.files name []) name ++ b ∷ bytes)
    ∙ ap (λ (l : List ℕ). map.insert t.files name (l ++ b ∷ bytes)) (content-insert t.files name [])

count_is : (t : Told) (name bytes : List ℕ)
    → (appended Log bytes (created name Log t)).written ≡ t.written + length bytes
count_is t name [] = omega arith
count_is t name (b ∷ bytes) = refl

files_are : (told after : Option Told) (name bytes : List ℕ)
    → after ≡ option_map (appended Log bytes) (option_map (created name Log) told)
    → option_map (λ t. t.files) after
    ≡ option_map (λ fs. map.insert fs name bytes) (option_map (λ t. t.files) told)
files_are None after name bytes e = ap (option_map (λ (t : Told). t.files)) e
files_are (Some t) after name bytes e =
    ap (option_map (λ (t : Told). t.files)) e ∙ ap Some (file_is t name bytes)

counts_are : (told after : Option Told) (name bytes : List ℕ)
    → after ≡ option_map (appended Log bytes) (option_map (created name Log) told)
    → option_map (λ t. t.written) after
    ≡ option_map (λ count. count + length bytes) (option_map (λ t. t.written) told)
counts_are None after name bytes e = ap (option_map (λ (t : Told). t.written)) e
counts_are (Some t) after name bytes e =
    ap (option_map (λ (t : Told). t.written)) e ∙ ap Some (count_is t name bytes)

same_terms : (t : Told) (bytes : List ℕ) → (appended Log bytes t).terms ≡ t.terms
same_terms t [] = refl
same_terms t (b ∷ bytes) = refl

terms_are : (told after : Option Told) (name bytes : List ℕ)
    → after ≡ option_map (appended Log bytes) (option_map (created name Log) told)
    → option_map (λ t. t.terms) after ≡ option_map (λ t. t.terms) told
terms_are None after name bytes e = ap (option_map (λ (t : Told). t.terms)) e
terms_are (Some t) after name bytes e = ap (option_map (λ (t : Told). t.terms)) e
    ∙ ap Some (same_terms (created name Log t) bytes)

-- ---- a log that was created

-- how it was
pub record IsCreated (name : List ℕ) (before mid : ShelfState) : Type 0 where
  pub told : mid.told ≡ option_map (created name Log) before.told
  pub openings : (phase : Phase) × (mid.openings ≡ opened Log name phase before.openings)
  pub later : before.write_faults ≤ mid.write_faults

module _ (name : List ℕ) (before after : World) (trust : Trust) (mid : ShelfState)
    (is_created : IsCreated name before.shelf mid) where
  cause_of : (was : Trust) (fault : WriteFault)
      → Counts {T = Unit {0}} (devices mid before.out) (Err fault) (devices after.shelf after.out)
      → Trusts {T = Unit {0}} was (Err fault) trust → IsCause name before after trust fault
  cause_of was why.Log counts trusts = let e : Rose mid.write_faults after.shelf.write_faults =
      counts in
      (omega (arith, is_created.later), λ k. (trusts.log (Some name) k).1 refl refl)
  cause_of was why.Out counts trusts = (counts, λ k. (trusts.out k).1 refl)
  cause_of was why.Full counts trusts = tt
  cause_of was why.NoMemory counts trusts = tt

  log_opened : after.shelf.openings ≡ mid.openings
      → OpensLog [] name before.shelf.openings after.shelf.openings
  log_opened same =
      (before.shelf.openings, is_created.openings.0, (refl, refl), same ∙ is_created.openings.1)

  rewrites : (bytes said : List ℕ)
      → Sent (devices mid before.out) bytes said (devices after.shelf after.out)
      → Rewrites before.shelf after.shelf name bytes
  rewrites bytes said sent =
      let e = sent.appended ∙ ap (option_map (appended Log bytes)) is_created.told in
      record {
        files = files_are before.shelf.told after.shelf.told name bytes e;
        written = counts_are before.shelf.told after.shelf.told name bytes e;
        terms = terms_are before.shelf.told after.shelf.told name bytes e;
      }

  module _ (limit most : ℕ) (IsText : Answer → (bytes said : List ℕ) → Type 0) (s : Status) where
    abbrev WroteText : Answer → Type 0
    WroteText answer = (bytes said : List ℕ) × IsText answer bytes said
        × Sent (devices mid before.out) bytes said (devices after.shelf after.out)

    wrote : (answer : Answer) → WroteText answer → HasRoom limit most answer
        → s ≡ status_of_writing limit answer → SaysEnd name before after trust limit answer
        → WritesLog name before after trust [] limit most IsText s
    wrote answer (bytes, said, text, sent) room is ends = record {
      answer = answer;
      status = is;
      bytes = bytes;
      said = said;
      text = text;
      log = rewrites bytes said sent;
      report = sent.taken;
      room = room;
      openings = log_opened sent.openings;
      ends = ends;
    }

    pub wrote_all : WroteText (Ok tt) → HasRoom {T = Unit {0}} limit most (Ok tt) → s ≡ status.Done
        → after.err ≡ before.err → Writes name before after trust [] limit most IsText s
    wrote_all text room is same = inr (wrote (Ok tt) text room is same)

    pub wrote_first : (was : Trust) (fault : WriteFault) → WroteText (Err fault)
        → HasRoom {T = Unit {0}} limit most (Err fault)
        → Counts {T = Unit {0}} (devices mid before.out) (Err fault) (devices after.shelf after.out)
        → Trusts {T = Unit {0}} was (Err fault) trust
        → s ≡ status_of_writing limit (Err fault)
        → Says before.err after.err (notice_of_fault limit fault)
        → Writes name before after trust [] limit most IsText s
    wrote_first was fault text room counts trusts is says =
        inr (wrote (Err fault) text room is (says, cause_of was fault counts trusts))

-- ---- behind the reading of files

module _ {V : Type 0} (reads : NamedSlots) (name : List ℕ) (before mid after : World) (trust : Trust)
    (v : V) (only : OnlyReads reads before.shelf mid.shelf (Ok v)) (out : mid.out ≡ before.out)
    (err : mid.err ≡ before.err) where
  opens_behind : OpensLog [] name mid.shelf.openings after.shelf.openings
      → OpensLog reads name before.shelf.openings after.shelf.openings
  opens_behind (o, phase, (all, same), is) = (
    mid.shelf.openings,
    phase,
    only.untouched.openings,
    is ∙ ap (opened Log name phase) same,
  )

  leaves_behind : LeavesFiles mid.shelf after.shelf → LeavesFiles before.shelf after.shelf
  leaves_behind leaves = record {
    files = leaves.files ∙ only.untouched.leaves.files;
    written = leaves.written ∙ only.untouched.leaves.written;
    terms = leaves.terms ∙ only.untouched.leaves.terms;
  }

  rewrites_behind : (bytes : List ℕ) → Rewrites mid.shelf after.shelf name bytes
      → Rewrites before.shelf after.shelf name bytes
  rewrites_behind bytes r = record {
    files = r.files ∙ ap (option_map (λ fs. map.insert fs name bytes)) only.untouched.leaves.files;
    written =
        r.written ∙ ap (option_map (λ count. count + length bytes)) only.untouched.leaves.written;
    terms = r.terms ∙ only.untouched.leaves.terms;
  }

  cause_behind : (fault : WriteFault) → IsCause name mid after trust fault
      → IsCause name before after trust fault
  cause_behind why.Log (rose, unreliable) = (
    subst (λ (n : ℕ). Rose n after.shelf.write_faults) only.untouched.write_faults rose,
    unreliable,
  )
  cause_behind why.Out (rose, unreliable) =
      (subst (λ (o : SinkState). Rose o.faults after.out.faults) out rose, unreliable)
  cause_behind why.Full cause = tt
  cause_behind why.NoMemory cause = tt

  ends_behind : (limit : ℕ) (answer : Answer) → SaysEnd name mid after trust limit answer
      → SaysEnd name before after trust limit answer
  ends_behind limit (Ok done) same = same ∙ err
  ends_behind limit (Err fault) (says, cause) = (
    subst (λ (e : SinkState). Says e after.err (notice_of_fault limit fault)) err says,
    cause_behind fault cause,
  )

  pub writes_behind : (limit most : ℕ) (IsText : Answer → (bytes said : List ℕ) → Type 0)
      (s : Status) → Writes name mid after trust [] limit most IsText s
      → Writes name before after trust reads limit most IsText s
  writes_behind limit most IsText s (inl none) = inl (record {
    status = none.status;
    leaves = leaves_behind none.leaves;
    out = none.out ∙ out;
    openings = opens_behind none.openings;
    cause = cause_behind why.Log none.cause;
    said = subst (λ (e : SinkState). Says e after.err notice.LogFault) err none.said;
  })
  writes_behind limit most IsText s (inr wrote) = inr (record {
    answer = wrote.answer;
    status = wrote.status;
    bytes = wrote.bytes;
    said = wrote.said;
    text = wrote.text;
    log = rewrites_behind wrote.bytes wrote.log;
    report = subst (λ (o : SinkState). TakenBy o after.out wrote.said) out wrote.report;
    room = wrote.room;
    openings = opens_behind wrote.openings;
    ends = ends_behind limit wrote.answer wrote.ends;
  })

-- ---- what the text is

module _ (reads : NamedSlots) (name : List ℕ) (before after : World) (trust : Trust)
    (limit most least : ℕ) (IsText Text : Answer → (bytes said : List ℕ) → Type 0)
    (text : (answer : Answer) (bytes said : List ℕ) → IsText answer bytes said
    → Text answer bytes said)
    (e : most ≡ least) where
  pub writes_as : (s : Status) → Writes name before after trust reads limit most IsText s
      → Writes name before after trust reads limit least Text s
  writes_as s (inl none) = inl none
  writes_as s (inr wrote) = inr (record {
    answer = wrote.answer;
    status = wrote.status;
    bytes = wrote.bytes;
    said = wrote.said;
    text = text wrote.answer wrote.bytes wrote.said wrote.text;
    log = wrote.log;
    report = wrote.report;
    room = subst (λ (n : ℕ). HasRoom limit n wrote.answer) e wrote.room;
    openings = wrote.openings;
    ends = wrote.ends;
  })

-- ---- the status

module _ (reads : NamedSlots) (name : List ℕ) (before after : World) (trust : Trust)
    (limit most : ℕ) (IsText : Answer → (bytes said : List ℕ) → Type 0) where
  answer_suits : (answer : Answer) (s : Status) → s ≡ status_of_writing limit answer
      → IsBrokenOff s ⊎ IsWritten s
  answer_suits (Ok done) s is = inr (inl is)
  answer_suits (Err why.Log) s is = inl (inr (inl is))
  answer_suits (Err why.Out) s is = inl (inr (inl is))
  answer_suits (Err why.Full) s is = inr (inr is)
  answer_suits (Err why.NoMemory) s is = inl (inr (inr is))

  pub writes_suits : (s : Status) → Writes name before after trust reads limit most IsText s
      → IsBrokenOff s ⊎ IsWritten s
  writes_suits s (inl none) = inl (inr (inl none.status))
  writes_suits s (inr wrote) = answer_suits wrote.answer s wrote.status

pub written_known : (s : Status) → IsWritten s → s ≢ status.Usage
written_known s (inl e) usage = cc
written_known s (inr e) usage = cc
