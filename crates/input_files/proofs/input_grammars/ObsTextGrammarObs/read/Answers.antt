use Rattle.std.proofs.Common.{◌≡◌, true, false, sym, ◌∙◌, subst}
use Rattle.command_words.specs.Seen.{epochs_asked}
use Rattle.error_bounds.specs.Reading.{IsKnown}
use Rattle.rinex_obs.specs.Header.{are_both}
use Rattle.rinex_obs.specs.Files.{Observations}
use Rattle.rinex_obs.specs.Reading.{observations_of}
use Rattle.input_files.proofs.GrammarLemmas.{SettlesErr, file_settles, no_obs_fault}
use Rattle.input_files.proofs.GrammarLemmas.{each_named, obs_gives, read_settles}
use Rattle.input_files.proofs.PositionLemmas.{known}
use Rattle.input_files.specs.Inputs.{obs_text}
use Rattle.input_files.specs.declared.input_fault.InputFault.TheVariants as input
use Rattle.input_files.proofs.input_grammars.ObsTextGrammarObs.read.Goals as goal

pub returns-in-Ok-clause-same : goal.returns-in-Ok-clause-same
returns-in-Ok-clause-same c =
    let t = c.args.self.now in
    let text = obs_text t.sought.now t.position (epochs_asked t.selection) in
    rw (sym c.deref.ensures.value) (read_settles text c.deref.result.now (observations_of c.in-Ok.obs)
    (λ o is. c.in-Ok.ensures.exact is.0 is.1 ∙ sym is.2)
    (no_obs_fault t.sought.now t.position c.deref.result.now c.in-Ok.ensures.first))

pub returns-in-Ok-clause-usual : goal.returns-in-Ok-clause-usual
returns-in-Ok-clause-usual c =
    let t = c.args.self.now in
    let e = c.in-Ok.ensures in
    record {
      usual = record { rising = e.rising; distinct = e.distinct; named = each_named (are_both t.sought.now) (observations_of c.in-Ok.obs).epochs e.named };
      known = subst (λ (o : Observations). t.position ≡ true → IsKnown o.position) (sym e.records.2) (known false t.sought.now t.position c.deref.result.now e.records.0 e.records.1);
    }

pub returns-clause-gives : goal.returns-clause-gives
returns-clause-gives c =
    let t = c.args.self.now in
    rw (sym c.deref.ensures.value) (rw c.of_obs.ensures (obs_gives t.sought.now t.position (epochs_asked t.selection) c.deref.result.now c.in-Err.error
    c.in-Err.ensures.fault))

pub returns-clause-same : goal.returns-clause-same
returns-clause-same c =
    let t = c.args.self.now in
    let text = obs_text t.sought.now t.position (epochs_asked t.selection) in
    rw (sym c.deref.ensures.value) (subst (SettlesErr text c.deref.result.now) (sym c.of_obs.ensures)
    (file_settles text c.deref.result.now (λ r. input.Obs r) c.in-Err.error (λ o is. c.in-Err.ensures.exact is.0 is.1)))
