use Rattle.std.proofs.Common.{List, [], refl, ap, inl, inr, Ok, Err}
use Rattle.std.proofs.lemmas.Result.{err_from_is_err_and}
use Rattle.rinex_text.specs.Lines.{lines_of}
use Rattle.rinex_text.specs.Reading.{behind_of, body_left}
use Rattle.rinex_text.proofs.TakeLemmas.{refuses_on}
use Rattle.rinex_obs.specs.Epochs.{Observed, epochs_from}
use Rattle.rinex_obs.specs.Files.{obs_file_by}
use Rattle.rinex_obs.specs.Reading.{wanted_of, start_of}
use Rattle.rinex_obs.proofs.BlockLemmas.{in_body}
use Rattle.rinex_obs.proofs.read.read_text.Goals as goal

pub returns-in-Err-clause-fault : goal.returns-in-Err-clause-fault
returns-in-Err-clause-fault c = inr (c.in-Err.refusal, rw c.are_both.ensures at c.in-Err.ensures, refl)

pub returns-in-Err-read_header-clause-fault : goal.returns-in-Err-read_header-clause-fault
returns-in-Err-read_header-clause-fault c =
    inl (behind_of c.in-Ok.lines, rw c.are_both.ensures at c.in-Ok.ensures, inr (c.in-Err-read_header.refusal, c.in-Err-read_header.ensures.fault, refl))

pub returns-in_err-epochs-clause-fault : goal.returns-in_err-epochs-clause-fault
returns-in_err-epochs-clause-fault c =
    let p = err_from_is_err_and c.from_residual.result c.from_residual.ensures.1 in
    let start = c.in-Ok-read_header.start in
    rw (p.1, p.2)
    (refuses_on (epochs_from c.args.rising (wanted_of start.0) [] c.new.result.lines.number 0 (body_left c.new.result)) (obs_file_by c.args.rising c.args.sought.now c.args.position (lines_of c.args.bytes.now))
    (λ refused h.
    inl (
      behind_of c.in-Ok.lines,
      (rw c.are_both.ensures at c.in-Ok.ensures),
      inl (
        start_of start.0 start.1 start.2,
        c.in-Ok-read_header.ensures.start,
        inr (refused, in_body c.args.rising (wanted_of start.0) _ _ _ _ (Err refused) c.new.ensures.number c.new.ensures.lines h, refl),
      ),
    ))
    _ c.in_err-epochs.ensures.fault)

pub returns-clause-observations : goal.returns-clause-observations
returns-clause-observations c =
    let start = c.in-Ok-read_header.start in
    let kept = c.in_ok-epochs.ensures.epochs in (
      record { position = start.1; epochs = kept.0 },
      inl (
        behind_of c.in-Ok.lines,
        (rw c.are_both.ensures at c.in-Ok.ensures),
        inl (
          start_of start.0 start.1 start.2,
          c.in-Ok-read_header.ensures.start,
          inl (kept.0, in_body c.args.rising (wanted_of start.0) _ _ _ _ (Ok kept.0) c.new.ensures.number c.new.ensures.lines kept.1, refl),
        ),
      ),
      ap (λ (epochs : List Observed). record { position = start.1; epochs = epochs }) kept.2,
    )
