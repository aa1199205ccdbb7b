-- What the rest of the steps and renewals shows is shown of all of them.
use Rattle.std.proofs.Common.{◌≡◌, ℕ, zero, suc, ◌+◌, ◌-◌, arith, List, [], ◌∷◌, ◌++◌, length, subst, refl, sym, ap, append_assoc, inl, inr, Some}
use Rattle.std.specs.Prelude.{slice_get}
use Rattle.gnss_model.specs.declared.delays.Delays.{Delays}
use Rattle.grid_model.specs.Boxes.{GridBox}
use Rattle.sat_model.specs.BoxTests.{test_of}
use Rattle.sat_model.specs.Events.{Event, Made, Renewed, RowsOver, rows_over, renewals_in, made_all, lines_of_all}
use Rattle.sat_model.specs.Renewals.{LineFact, LineTests}
use Rattle.sat_model.specs.Stages.{Stage, first_stage, after}
use Rattle.sat_model.specs.Verdicts.{DonePasses, DoneFails, EventsPass, EventsFail}
use Rattle.sat_model.specs.declared.rows.Row.{Row}
use Rattle.sat_model.specs.declared.rules.Rules.{Rules}
use Rattle.sat_model.specs.declared.steps.Step.{Step}
use Rattle.sat_model.proofs.EventLemmas.{lines_of_made, lines_behind}
use Rattle.sat_rows.specs.declared.bases.Base.{Base}
use Rattle.paving_log_check.specs.Answers.{ShowsNoSpans}
use Rattle.paving_log_check.specs.Forming.{AreAllFormed, AreAsMany, AreManyBefore, RenewalHolds, RenewalBreaks, EventsHold, EventsBreak}
use Rattle.paving_log_check.specs.Renewed.{HoldsGiven, own_tests}
use Rattle.paving_log_check.specs.Steps.{StepsPass, StepsFail, stage_behind}
use Rattle.paving_log_check.specs.declared.verdict.Fault.{Fault}
use Rattle.paving_log_check.proofs.BeforeLemmas.{none_before, many_behind, many_among}
use Rattle.paving_log_check.proofs.BlockLemmas.{renewal_within}

-- ---- steps before other events

passes_behind : (Meets : LineFact) (first : RowsOver) (rules : Rules) (done j : ℕ) (stage : Stage) (steps : List Step) (more : List Event)
    → StepsPass rules stage steps
    → EventsPass Meets first rules done j (stage_behind stage steps) more
    → EventsPass Meets first rules done j stage (made_all steps ++ more)
passes_behind Meets first rules done j stage [] more h later = later
passes_behind Meets first rules done j stage (step ∷ steps) more h later = (h.0, passes_behind Meets first rules done j (after stage (Made step)) steps more h.1 later)

module _ {F : Type 0} (tests : LineTests F) (first : RowsOver) (rules : Rules) (done : ℕ) where
  fails_behind : (j : ℕ) (stage : Stage) (steps : List Step) (more : List Event) (k : ℕ) (fault : F)
      → StepsPass rules stage steps
      → EventsFail tests first rules done j (stage_behind stage steps) more k fault
      → EventsFail tests first rules done j stage (made_all steps ++ more) (length steps + k) fault
  fails_behind j stage [] more k fault h later = subst (λ (n : ℕ). EventsFail tests first rules done j stage more n fault) (omega arith) later
  fails_behind j stage (step ∷ steps) more k fault h later =
      let on : EventsFail tests first rules done j stage (made_all (step ∷ steps) ++ more) (suc (length steps + k)) fault = (h.0, fails_behind j (after stage (Made step)) steps more k fault h.1 later) in
      let same : suc (length steps + k) ≡ length (step ∷ steps) + k = omega arith in
      subst (λ (n : ℕ). EventsFail tests first rules done j stage (made_all (step ∷ steps) ++ more) n fault) same on

  fails_among : (j : ℕ) (stage : Stage) (steps : List Step) (more : List Event) (k : ℕ) (fault : F)
      → StepsFail rules stage steps k (tests.number fault) → tests.plain fault
      → EventsFail tests first rules done j stage (made_all steps ++ more) k fault
  fails_among j stage [] more k fault f plain = absurd f
  fails_among j stage (step ∷ steps) more zero fault f plain = (f, plain)
  fails_among j stage (step ∷ steps) more (suc k) fault f plain = (f.0, fails_among j (after stage (Made step)) steps more k fault f.1 plain)

-- ---- the rows that are given

-- behind some lists stands the next one
next_given : (given : List (List Row)) (one : List Row) (more : List (List Row)) (j : ℕ)
    → length given ≡ j → slice_get (given ++ one ∷ more) j ≡ Some one
next_given [] one more zero e = refl
next_given [] one more (suc j) e = absurd (omega (arith, e))
next_given (first ∷ given) one more zero e = absurd (omega (arith, e))
next_given (first ∷ given) one more (suc j) e = next_given given one more j (omega (arith, e))

one_behind : (given : List (List Row)) (one : List Row) (more : List (List Row))
    → (given ++ one ∷ []) ++ more ≡ given ++ one ∷ more
one_behind given one more = append_assoc given (one ∷ []) more

-- ---- the walk

module _ (delays : Delays) (root : GridBox) (firsts : List Row) (bases : List Base) (rules : Rules) (done : ℕ) (all : List Event) where
  abbrev PassFrom : List (List Row) → ℕ → Stage → List Event → Type 0
  PassFrom renewed j stage events = EventsPass (HoldsGiven delays renewed) (rows_over root firsts) rules done j stage events

  abbrev FailFrom : List (List Row) → ℕ → Stage → List Event → ℕ → Fault → Type 0
  FailFrom renewed j stage events k fault = EventsFail (own_tests delays renewed) (rows_over root firsts) rules done j stage events k fault

  abbrev pub start : Stage
  start = first_stage (test_of rules firsts) root

  -- behind so many lines, and j renewals for which rows are given, these events decide from this stage on
  pub record IsWalked (j : ℕ) (stage : Stage) (events : List Event) (offset : ℕ) : Type 0 where
    pub given : List (List Row)
    pub many : length given ≡ j
    pub formed : (more : List (List Row)) → AreAllFormed delays root bases (renewals_in events) more
        → AreAllFormed delays root bases (renewals_in all) (given ++ more)
    pub whole : (more : List (List Row)) → AreAsMany bases (renewals_in events) more
        → AreAsMany bases (renewals_in all) (given ++ more)
    pub before : (more : List (List Row)) (k : ℕ) → AreManyBefore bases k events more
        → AreManyBefore bases (offset + k) all (given ++ more)
    pub pass : (more : List (List Row)) → PassFrom (given ++ more) j stage events
        → PassFrom (given ++ more) 0 start all
    pub fail : (more : List (List Row)) (k : ℕ) (fault : Fault)
        → FailFrom (given ++ more) j stage events k fault
        → FailFrom (given ++ more) 0 start all (offset + k) fault
    pub lines : offset + lines_of_all events ≡ lines_of_all all

  pub walked_first : IsWalked 0 start all 0
  walked_first = record {
    given = [];
    many = refl;
    formed = λ more h. h;
    whole = λ more h. h;
    before = λ more k h. subst (λ (n : ℕ). AreManyBefore bases n all more) (omega arith) h;
    pass = λ more h. h;
    fail = λ more k fault h. subst (λ (n : ℕ). FailFrom more 0 start all n fault) (omega arith) h;
    lines = omega arith;
  }

  renewals_behind_steps : (steps : List Step) (events : List Event)
      → renewals_in (made_all steps ++ events) ≡ renewals_in events
  renewals_behind_steps [] events = refl
  renewals_behind_steps (step ∷ steps) events = renewals_behind_steps steps events

  -- ---- steps

  module _ {j : ℕ} {stage : Stage} {offset : ℕ} (steps : List Step) (events : List Event) (w : IsWalked j stage (made_all steps ++ events) offset) where
    pub walked_steps : StepsPass rules stage steps
        → IsWalked j (stage_behind stage steps) events (offset + length steps)
    walked_steps passes =
        let same = renewals_behind_steps steps events in
        record {
          given = w.given;
          many = w.many;
          formed = λ more h. w.formed more (subst (λ (l : List RowsOver). AreAllFormed delays root bases l more) (sym same) h);
          whole = λ more h. w.whole more (subst (λ (l : List RowsOver). AreAsMany bases l more) (sym same) h);
          before = λ more k h. subst (λ (n : ℕ). AreManyBefore bases n all (w.given ++ more)) (omega arith)
              (w.before more (length steps + k) (many_behind bases steps events more k h));
          pass = λ more h. w.pass more (passes_behind (HoldsGiven delays (w.given ++ more)) (rows_over root firsts) rules done j stage steps events passes h);
          fail = λ more k fault h. subst (λ (n : ℕ). FailFrom (w.given ++ more) 0 start all n fault) (omega arith)
              (w.fail more (length steps + k) fault (fails_behind (own_tests delays (w.given ++ more)) (rows_over root firsts) rules done j stage steps events k fault passes h));
          lines = omega (arith, w.lines, lines_behind (made_all steps) events, lines_of_made steps);
        }

    pub walked_steps_fail : (k : ℕ) (fault : Fault) → StepsFail rules stage steps k fault.number
        → ShowsNoSpans fault
        → EventsBreak delays root firsts bases rules done all (offset + k) fault
    walked_steps_fail k fault fails plain = record {
      renewed = w.given ++ [];
      formed = w.formed [] tt;
      many = w.before [] k (many_among bases rules stage steps events [] k fault.number fails);
      fails = w.fail [] k fault (fails_among (own_tests delays (w.given ++ [])) (rows_over root firsts) rules done j stage steps events k fault fails plain);
    }

  -- ---- a renewal

  module _ {j : ℕ} {stage : Stage} {offset : ℕ} (new : RowsOver) (events : List Event) (w : IsWalked j stage (Renewed new ∷ events) offset) where
    pub walked_renewal : RenewalHolds delays root firsts bases stage.boxes new
        → IsWalked (suc j) (after stage (Renewed new)) events (offset + 1 + length new.rows)
    walked_renewal h = record {
      given = w.given ++ h.given ∷ [];
      many = omega (arith, w.many, length_more w.given h.given);
      formed = λ more f. subst (λ (l : List (List Row)). AreAllFormed delays root bases (renewals_in all) l) (sym (one_behind w.given h.given more)) (w.formed (h.given ∷ more) (h.formed, f));
      whole = λ more f. subst (λ (l : List (List Row)). AreAsMany bases (renewals_in all) l) (sym (one_behind w.given h.given more)) (w.whole (h.given ∷ more) (h.many, f));
      before = λ more k f. subst (λ (l : List (List Row)). AreManyBefore bases (offset + 1 + length new.rows + k) all l) (sym (one_behind w.given h.given more))
          (subst (λ (n : ℕ). AreManyBefore bases n all (w.given ++ h.given ∷ more)) (omega arith)
          (w.before (h.given ∷ more) (1 + length new.rows + k)
          (omega (arith, h.many), subst (λ (n : ℕ). AreManyBefore bases n events more) (omega arith) f)));
      pass = λ more f.
          let same = one_behind w.given h.given more in
          let here = subst (λ (l : List (List Row)). PassFrom l (suc j) (after stage (Renewed new)) events) same f in
          subst (λ (l : List (List Row)). PassFrom l 0 start all) (sym same)
          (w.pass (h.given ∷ more) (h.passes (w.given ++ h.given ∷ more) j (next_given w.given h.given more j w.many), here));
      fail = λ more k fault f.
          let same = one_behind w.given h.given more in
          let here = subst (λ (l : List (List Row)). FailFrom l (suc j) (after stage (Renewed new)) events k fault) same f in
          let there : FailFrom (w.given ++ h.given ∷ more) j stage (Renewed new ∷ events) (1 + length new.rows + k) fault =
          inr (k, refl, h.passes (w.given ++ h.given ∷ more) j (next_given w.given h.given more j w.many), here) in
          subst (λ (l : List (List Row)). FailFrom l 0 start all (offset + 1 + length new.rows + k) fault) (sym same)
          (subst (λ (n : ℕ). FailFrom (w.given ++ h.given ∷ more) 0 start all n fault) (omega arith)
          (w.fail (h.given ∷ more) (1 + length new.rows + k) fault there));
      lines = omega (arith, w.lines);
    }
      where
        length_more : (given : List (List Row)) (one : List Row)
            → length (given ++ one ∷ []) ≡ suc (length given)
        length_more [] one = refl
        length_more (first ∷ given) one = ap suc (length_more given one)

    pub walked_renewal_fails : (k : ℕ) (fault : Fault)
        → RenewalBreaks delays root firsts bases stage.boxes new k fault
        → EventsBreak delays root firsts bases rules done all (offset + k) fault
    walked_renewal_fails k fault f = record {
      renewed = w.given ++ f.given ∷ [];
      formed = w.formed (f.given ∷ []) (f.formed, tt);
      many = w.before (f.given ∷ []) k (
        omega (arith, f.many),
        none_before bases (k - (1 + length new.rows)) events [] (omega (
          arith,
          renewal_within (own_tests delays (f.given ∷ [])) (rows_over root firsts) 0 stage.boxes new k fault (f.fails (f.given ∷ []) 0 refl),
        )),
      );
      fails = w.fail (f.given ∷ []) k fault (inl (f.fails (w.given ++ f.given ∷ []) j (next_given w.given f.given [] j w.many)));
    }

  -- ---- the end

  pub walked_done : {j : ℕ} {stage : Stage} {offset : ℕ} → IsWalked j stage [] offset
      → DonePasses done stage → EventsHold delays root firsts bases rules done all
  walked_done w h = record {
    renewed = w.given ++ [];
    formed = w.formed [] tt;
    many = w.whole [] tt;
    passes = w.pass [] h;
  }

  pub walked_done_fails : {j : ℕ} {stage : Stage} {offset : ℕ} (fault : Fault)
      → IsWalked j stage [] offset → DoneFails done stage fault.number → ShowsNoSpans fault
      → EventsBreak delays root firsts bases rules done all offset fault
  walked_done_fails {offset = offset} fault w f plain = record {
    renewed = w.given ++ [];
    formed = w.formed [] tt;
    many = subst (λ (n : ℕ). AreManyBefore bases n all (w.given ++ [])) (omega arith) (w.before [] 0 tt);
    fails = subst (λ (n : ℕ). FailFrom (w.given ++ []) 0 start all n fault) (omega arith) (w.fail [] 0 fault (refl, f, plain));
  }
