use Rattle.std.proofs.Common.{ℕ, ◌+◌, List, [], ◌∷◌, ◌++◌, sym, ◌∙◌, ap, subst}
use Rattle.std.proofs.lemmas.Result.{err_from_is_err_and}
use Rattle.rinex_text.specs.Reading.{body_left, body_behind}
use Rattle.rinex_text.proofs.TakeLemmas.{refuses_on}
use Rattle.rinex_obs.specs.Epochs.{Observed, block_from, epochs_from}
use Rattle.rinex_obs.specs.Reading.{wanted_of, block_of, plain_epoch}
use Rattle.rinex_obs.proofs.BlockLemmas.{head_fault, block_fault, block_step, one_kept, none_kept, with_epoch, without_epoch, found_index, one_longer, time_behind, lines_of_block}
use Rattle.rinex_obs.proofs.blocks.read_epochs.Goals as goal

pub returns-in-Err-clause-fault : goal.returns-in-Err-clause-fault
returns-in-Err-clause-fault c =
    let so_far = c.lines.invariant in
    rw c.new-refusal.ensures
    (so_far.4 _ (head_fault c.args.rising (wanted_of c.args.places.now) so_far.0 c.lines.count _ c.in-Some.behind.lines.number _ _ _ _ c.in-Some.ensures.line so_far.1 so_far.2 c.in-Some.ensures.number c.in-Err.fault c.in-Err.ensures.line))

pub returns-in_err-found-clause-fault : goal.returns-in_err-found-clause-fault
returns-in_err-found-clause-fault c =
    let p = err_from_is_err_and c.from_residual.result c.from_residual.ensures.1 in
    let so_far = c.lines.invariant in
    rw (p.1, p.2)
    (refuses_on (block_from (wanted_of c.args.places.now) c.lines.count c.in-Ok.head (body_behind c.in-Some.behind)) (epochs_from c.args.rising (wanted_of c.args.places.now) [] c.args.body.lines.number 0 (body_left c.args.body))
    (λ refused h. so_far.4 _
    (block_fault c.args.rising (wanted_of c.args.places.now) so_far.0 c.lines.count _ c.in-Some.behind.lines.number _ _ _ _ c.in-Some.ensures.line so_far.1 so_far.2 c.in-Some.ensures.number c.in-Ok.head c.in-Ok.ensures.line refused h))
    _ c.in_err-found.ensures.fault)

-- an epoch that is kept
pub lines-preserved-in-Continue-branch-2 : goal.lines-preserved-in-Continue-branch-2
lines-preserved-in-Continue-branch-2 c =
    let so_far = c.lines.invariant in
    let epoch = c.in-Some-found.epoch in
    let b = c.in_ok-found.ensures.block in
    let index = found_index (wanted_of c.args.places.now) c.lines.count c.in-Ok.head (body_behind c.in-Some.behind) c.in_ok-found.found epoch b.0 c.in-Some-found.is b.1 in (
      so_far.0 ++ plain_epoch epoch ∷ [],
      index ∙ ap (λ (n : ℕ). n + 1) so_far.1 ∙ sym (one_longer so_far.0 (plain_epoch epoch)),
      c.time_before-before.ensures ∙ time_behind c.args.rising so_far.0 (plain_epoch epoch),
      one_kept c.args.from c.args.to so_far.0 epoch c.lines.kept.items c.push.new.self.items c.in_ok-push.ensures.items so_far.3 (sym c.is_between.ensures ∙ c.if-is_between.true),
      λ answer h. so_far.4 answer
          (block_step c.args.rising (wanted_of c.args.places.now) so_far.0 c.lines.count _ c.in-Some.behind.lines.number _ _ _ _ c.in-Some.ensures.line so_far.1 so_far.2 c.in-Some.ensures.number c.in-Ok.head c.in-Ok.ensures.line
          (block_of c.in_ok-found.found b.0) b.0 c.in_ok-found.after.lines.number (body_left c.in_ok-found.after) answer b.1 (lines_of_block c.in_ok-found.found b.0) b.2.enough b.2.number b.2.lines
          (subst (λ (epochs : List Observed). epochs_from c.args.rising (wanted_of c.args.places.now) epochs c.in_ok-found.after.lines.number 0 (body_left c.in_ok-found.after) answer) (sym (with_epoch so_far.0 c.in_ok-found.found epoch b.0 c.in-Some-found.is)) h)),
    )

-- one that isn't
pub lines-preserved-else-is_between : goal.lines-preserved-else-is_between
lines-preserved-else-is_between c =
    let so_far = c.lines.invariant in
    let epoch = c.in-Some-found.epoch in
    let b = c.in_ok-found.ensures.block in
    let index = found_index (wanted_of c.args.places.now) c.lines.count c.in-Ok.head (body_behind c.in-Some.behind) c.in_ok-found.found epoch b.0 c.in-Some-found.is b.1 in (
      so_far.0 ++ plain_epoch epoch ∷ [],
      index ∙ ap (λ (n : ℕ). n + 1) so_far.1 ∙ sym (one_longer so_far.0 (plain_epoch epoch)),
      c.time_before-before.ensures ∙ time_behind c.args.rising so_far.0 (plain_epoch epoch),
      none_kept c.args.from c.args.to so_far.0 epoch c.lines.kept.items so_far.3 (sym c.is_between.ensures ∙ c.if-is_between.false),
      λ answer h. so_far.4 answer
          (block_step c.args.rising (wanted_of c.args.places.now) so_far.0 c.lines.count _ c.in-Some.behind.lines.number _ _ _ _ c.in-Some.ensures.line so_far.1 so_far.2 c.in-Some.ensures.number c.in-Ok.head c.in-Ok.ensures.line
          (block_of c.in_ok-found.found b.0) b.0 c.in_ok-found.after.lines.number (body_left c.in_ok-found.after) answer b.1 (lines_of_block c.in_ok-found.found b.0) b.2.enough b.2.number b.2.lines
          (subst (λ (epochs : List Observed). epochs_from c.args.rising (wanted_of c.args.places.now) epochs c.in_ok-found.after.lines.number 0 (body_left c.in_ok-found.after) answer) (sym (with_epoch so_far.0 c.in_ok-found.found epoch b.0 c.in-Some-found.is)) h)),
    )

-- an event
pub lines-preserved : goal.lines-preserved
lines-preserved c =
    let so_far = c.lines.invariant in
    let b = c.in_ok-found.ensures.block in (
      so_far.0,
      so_far.1,
      so_far.2,
      so_far.3,
      λ answer h. so_far.4 answer
          (block_step c.args.rising (wanted_of c.args.places.now) so_far.0 c.lines.count _ c.in-Some.behind.lines.number _ _ _ _ c.in-Some.ensures.line so_far.1 so_far.2 c.in-Some.ensures.number c.in-Ok.head c.in-Ok.ensures.line
          (block_of c.in_ok-found.found b.0) b.0 c.in_ok-found.after.lines.number (body_left c.in_ok-found.after) answer b.1 (lines_of_block c.in_ok-found.found b.0) b.2.enough b.2.number b.2.lines
          (subst (λ (epochs : List Observed). epochs_from c.args.rising (wanted_of c.args.places.now) epochs c.in_ok-found.after.lines.number 0 (body_left c.in_ok-found.after) answer) (sym (without_epoch so_far.0 c.in_ok-found.found b.0 c.in_default-found.is)) h)),
    )
