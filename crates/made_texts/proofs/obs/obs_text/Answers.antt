use Rattle.std.proofs.Common.{◌≡◌, List, ℕ, None, sym, subst, arith, false, ap, get_or, ◌++◌, ◌∙◌}
use Rattle.rinex_obs.specs.Files.{IsObsFile}
use Rattle.gnss_model.specs.declared.satellites.Signal.TheVariants.{Single}
use Rattle.made_texts.specs.ObsText.{code_c1c, observed_from, epoch_text}
use Rattle.made_texts.specs.declared.sat_codes.EpochCodes.{EpochCodes}
use Rattle.made_texts.proofs.ObsWriting.{epochs_next, epochs_end}
use Rattle.made_texts.proofs.ObsLemmas.{obs_read}
use Rattle.made_texts.proofs.obs.obs_text.Goals as goal

pub epochs-preserved : goal.epochs-preserved
epochs-preserved c =
    let item : get_or c.args.epochs.now c.epochs.epoch-index c.epoch-item.result ≡ c.epoch-item.result = grind (arith, c.epoch-item.is) in
    let wrote = ap (λ (e : EpochCodes). c.epochs.text.items ++ epoch_text e) (sym item) in
    epochs_next c.epochs.text.items _ _ c.args.epochs.now c.epochs.epoch-index c.epoch-item.result (omega arith) c.epochs.invariant (c.in_ok-push_epoch.ensures ∙ wrote)

pub returns-clause-text : goal.returns-clause-text
returns-clause-text c = epochs_end _ _ c.args.epochs.now c.epochs.epoch-index (grind arith) c.epochs.invariant

pub returns-clause-accepted : goal.returns-clause-accepted
returns-clause-accepted c =
    subst (λ (text : List ℕ). IsObsFile (Single code_c1c) false text (record { position = None; epochs = observed_from 1 c.args.epochs.now })) (sym (returns-clause-text c)) (obs_read c.args.epochs.now c.requires.are c.requires.few)
