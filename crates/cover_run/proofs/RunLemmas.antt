-- How a run ends, by what was read.
use Rattle.std.proofs.Common.{◌≡◌, ◌⊎◌, Result, Ok, Err, inl, inr, sym, subst, ◌∙◌}
use Rattle.std.specs.Prelude.{◌≢◌}
use Rattle.input_files.specs.Reading.{IsBrokenOff, Found, IsOfReading, OnlyReads}
use Rattle.input_files.specs.Reading.{Settles}
use Rattle.input_files.specs.Statuses.{status_of}
use Rattle.input_files.specs.declared.notice.Notice.{Notice}
use Rattle.input_files.specs.declared.status.Status.{Status}
use Rattle.input_files.specs.declared.status.Status.TheVariants as status
use Rattle.log_writer.specs.Writing.{Trust}
use Rattle.cover_run.specs.Runs.{Task, RunOf, Fits}
use Rattle.cover_run.specs.Worlds.{World, Says}

not_broken : (s : Status) → IsBrokenOff s → s ≢ status.Usage
not_broken s (inl e) usage = cc
not_broken s (inr (inl e)) usage = cc
not_broken s (inr (inr e)) usage = cc

of_reading : (n : Notice) → IsOfReading n → status_of n ≢ status.Usage
of_reading n (inl e) usage = cc
of_reading n (inr (inl e)) usage = cc
of_reading n (inr (inr e)) usage = cc

pub stopped_not_done : (n : Notice) → IsOfReading n → status_of n ≢ status.Done
stopped_not_done n (inl e) done = cc
stopped_not_done n (inr (inl e)) done = cc
stopped_not_done n (inr (inr e)) done = cc

module _ {V : Type 0} (task : Task V) (before after : World) (trust : Trust) (s : Status) where
  abbrev Suited : V → Type 0
  Suited v = IsBrokenOff s ⊎ task.Suits (task.value v) s

  accepted_fits : (v : V) (other : Result task.Value Notice) → Suited v
      → Settles (Ok (task.value v)) other → IsBrokenOff s ⊎ Fits task before after trust s other
  accepted_fits v other suited (inl none) = absurd none
  accepted_fits v (Err n) suited (inr none) = absurd none
  accepted_fits v (Ok w) suited (inr same) =
      subst (λ (x : task.Value). IsBrokenOff s ⊎ task.Suits x s) same suited

  unread_fits : (n : Notice) (other : Result task.Value Notice) → s ≡ status_of n
      → Settles {V = task.Value} (Err n) other
      → IsBrokenOff s ⊎ Fits task before after trust s other
  unread_fits n other is (inl broken) = inl (subst IsBrokenOff (sym is) broken)
  unread_fits n (Ok w) is (inr none) = absurd none
  unread_fits n (Err m) is (inr same) = inr (is ∙ same)

  suited_no_usage : (v : V) → ((task.Suits (task.value v) s) → s ≢ status.Usage)
      → Suited v → s ≢ status.Usage
  suited_no_usage v suits (inl broken) = not_broken s broken
  suited_no_usage v suits (inr suited) = suits suited

  pub run_ok : (v : V)
      → Found task.reads before.shelf after.shelf trust.log (Ok (task.value v))
      → task.Does v before after trust s → Suited v
      → ((task.Suits (task.value v) s) → s ≢ status.Usage)
      → RunOf task before after trust s
  run_ok v found does suited suits = record {
    read = Ok v;
    found = found;
    no_usage = suited_no_usage v suits suited;
    ends = does;
    exact = λ told other is given.
        accepted_fits v other suited (found.same told other is given);
  }

  pub run_err : (n : Notice)
      → Found task.reads before.shelf after.shelf trust.log (Err n)
      → OnlyReads {V = V} task.files before.shelf after.shelf (Err n) → s ≡ status_of n
      → Says before.err after.err n → after.out ≡ before.out → RunOf task before after trust s
  run_err n found only is says out = record {
    read = Err n;
    found = found;
    no_usage = λ e. of_reading n only.ends (sym is ∙ e);
    ends = record { status = is; ends = only.ends; said = says; out = out; shelf = only.untouched };
    exact = λ told other told_is given.
        unread_fits n other is (found.same told other told_is given);
  }
