-- A log that was solved in memory, and the lines that are printed of it.
use Rattle.std.proofs.Common.{◌≡◌, ℕ, List, length, Option, Some, Ok, Err, inl, inr, refl}
use Rattle.std.proofs.Common.{sym, ap, subst, ◌∙◌}
use Rattle.std.specs.Prelude.{◌≢◌, Result, IfOk, IfErr, None, [], unwrap_or}
use Rattle.std.specs.FinMap as map
use Rattle.std.specs.Option.{option_map}
use Rattle.epoch_selection.specs.Selections.{all_epochs}
use Rattle.input_files.specs.Statuses.{status_of}
use Rattle.input_files.specs.declared.inputs.Inputs.{Inputs}
use Rattle.input_files.specs.declared.notice.Notice.{Notice}
use Rattle.input_files.specs.declared.status.Status.{Status}
use Rattle.input_files.specs.declared.status.Status.TheVariants as status
use Rattle.log_writer.specs.Sizes.{HasRoom}
use Rattle.log_writer.specs.Writing.{Trust}
use Rattle.log_writer.specs.declared.fault.WriteFault.TheVariants as why
use Rattle.outer_io.proofs.Covering.{get-log}
use Rattle.outer_io.specs.Told.{Files, ShelfState, files_of}
use Rattle.paving_log.specs.Values.{log_value}
use Rattle.paving_log.specs.declared.log.Log.{Log}
use Rattle.sat_model.specs.Logs.{LogValue}
use Rattle.sat_model.specs.Verdicts.{Judged}
use Rattle.cover_run.specs.Making.{AreMade, FillsMade, IsCutOff, IsFull, IsSolvedAs, Makes}
use Rattle.cover_run.specs.Making.{SolvesMade, made_text}
use Rattle.cover_run.specs.Solving.{IsSolution, IsSolved, Solution, most_of}
use Rattle.cover_run.specs.Telling.{Sinks, TellsLine}
use Rattle.cover_run.specs.Worlds.{World, Says}
use Rattle.cover_run.specs.Writing.{Answer, status_of_writing}

-- ---- the log in memory

-- the named file has the text of a whole log
pub record HoldsLog (limit : ℕ) (i : Inputs) (name : List ℕ) (after : ShelfState) : Type 0 where
  pub bytes : List ℕ
  pub said : List ℕ
  pub solved : IsSolved all_epochs i limit bytes said
  pub file : option_map (λ fs. map.get fs name) (files_of after) ≡ Some (Some bytes)

module _ (limit : ℕ) (name : List ℕ) (i : Inputs) (before after : World) (trust : Trust) where
  whole_of : (bytes said : List ℕ) (answer : Answer) → status.Done ≡ status_of_writing limit answer
      → IsSolution all_epochs i limit answer bytes said → IsSolved all_epochs i limit bytes said
  whole_of bytes said (Ok done) e text = text
  whole_of bytes said (Err why.Log) e text = cc
  whole_of bytes said (Err why.Out) e text = cc
  whole_of bytes said (Err why.Full) e text = cc
  whole_of bytes said (Err why.NoMemory) e text = cc

  pub holds_log : (files : Files) → files_of before.shelf ≡ Some files
      → Solution limit name all_epochs i before after trust status.Done
      → HoldsLog limit i name after.shelf
  holds_log files told (inl none) = let e : status.Done ≡ status.WriteFault = none.status in cc
  holds_log files told (inr wrote) = record {
    bytes = wrote.bytes;
    said = wrote.said;
    solved = whole_of wrote.bytes wrote.said wrote.answer wrote.status wrote.text;
    file =
        ap (option_map (λ fs. map.get fs name))
        (wrote.log.files ∙ ap (option_map (λ fs. map.insert fs name wrote.bytes)) told)
        ∙ ap Some (get-log files name name (Some wrote.bytes) refl refl);
  }

  full_of : (bytes said : List ℕ) (answer : Answer)
      → status.LogFull ≡ status_of_writing limit answer
      → IsSolution all_epochs i limit answer bytes said
      → HasRoom limit (most_of all_epochs i)
      answer
      → IsFull limit i
  full_of bytes said (Err why.Full) e text room =
      record { bytes = bytes; said = said; begun = text; room = room }
  full_of bytes said (Ok done) e text room = cc
  full_of bytes said (Err why.Log) e text room = cc
  full_of bytes said (Err why.Out) e text room = cc
  full_of bytes said (Err why.NoMemory) e text room = cc

  pub is_full : Solution limit name all_epochs i before after trust status.LogFull
      → IsFull limit i
  is_full (inl none) = let e : status.LogFull ≡ status.WriteFault = none.status in cc
  is_full (inr wrote) =
      full_of wrote.bytes wrote.said wrote.answer wrote.status wrote.text wrote.room

-- it is read as this log, unless memory runs out
module _ (limit : ℕ) (i : Inputs) (name : List ℕ) (after : ShelfState) where
  pub file_is : (h : HoldsLog limit i name after) (bytes : List ℕ)
      → Some (Some bytes) ≡ option_map (λ fs. map.get fs name) (files_of after)
      → h.bytes ≡ bytes
  file_is h bytes e =
      sym (ap (λ (o : Option (Option (List ℕ))). unwrap_or (unwrap_or o None) []) (e ∙ h.file))

  pub file_there : (h : HoldsLog limit i name after)
      → Some None ≡ option_map (λ fs. map.get fs name) (files_of after) → ⊥
  file_there h e = let none : Some None ≡ Some (Some h.bytes) = e ∙ h.file in cc

  pub solved_as : (h : HoldsLog limit i name after) (r : Result Log Notice)
      → IfOk r (λ log. log_value log ≡ h.solved.whole.log)
      → IfOk r (λ log. IsSolvedAs limit i (log_value log))
  solved_as h (Ok log) is =
      record { bytes = h.bytes; said = h.said; solved = h.solved; log_is = sym is }
  solved_as h (Err n) is = tt

-- ---- the log of made files

module _ (limit seed count : ℕ) where
  module _ (i : Inputs) (are : AreMade seed count i) where
    pub solves_made : (r : Result Log Notice)
        → IfOk r (λ log. IsSolvedAs limit i (log_value log))
        → IfOk r (λ log. SolvesMade limit seed count (log_value log))
    solves_made (Ok log) solved = record { inputs = i; are_made = are; solved = solved }
    solves_made (Err n) solved = tt

    pub fills_made : (r : Result Log Notice) → IfErr r (IsCutOff limit (IsFull limit i))
        → IfErr r (IsCutOff limit (FillsMade limit seed count))
    fills_made (Ok log) cut = tt
    fills_made (Err n) (inl memory) = inl memory
    fills_made (Err n) (inr (is, full)) =
        inr (is, record { inputs = i; are_made = are; full = full })

  pub made_judged : (log : LogValue) → SolvesMade limit seed count log → Judged log
  made_judged log s = subst Judged s.solved.log_is s.solved.solved.whole.judged

-- ---- the lines

module _ (limit seed count : ℕ) (before after : Sinks) (reliable : Type 0) where
  pub makes_told : (log : LogValue) (s : Status) → SolvesMade limit seed count log
      → TellsLine status.Done (made_text seed count log) before after reliable s
      → Makes limit seed count before after reliable s
  makes_told log s solves (inl (is, prints)) =
      subst (Makes limit seed count before after reliable) (sym is) (log, solves, prints)
  makes_told log s solves (inr (is, breaks)) =
      subst (Makes limit seed count before after reliable) (sym is) (log, solves, breaks)

  pub makes_none : (n : Notice) (s : Status) → s ≡ status_of n
      → IsCutOff limit (FillsMade limit seed count) n → Says before.err after.err n
      → after.out ≡ before.out → Makes limit seed count before after reliable s
  makes_none n s is (inl m) says out =
      subst (Makes limit seed count before after reliable) (sym (is ∙ ap status_of m))
      (subst (Says before.err after.err) m says, out)
  makes_none n s is (inr (m, full)) says out =
      subst (Makes limit seed count before after reliable) (sym (is ∙ ap status_of m))
      (full, subst (Says before.err after.err) m says, out)

  pub makes_known : (s : Status) → Makes limit seed count before after reliable s
      → s ≢ status.Usage
  makes_known status.Done makes usage = cc
  makes_known status.WriteFault makes usage = cc
  makes_known status.LogFull makes usage = cc
  makes_known status.NoMemory makes usage = cc
  makes_known status.No makes usage = absurd makes
  makes_known status.Usage makes usage = absurd makes
  makes_known status.Refused makes usage = absurd makes
  makes_known status.ReadFault makes usage = absurd makes
