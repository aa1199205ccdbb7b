use Rattle.std.proofs.Common.{◌≡◌, [], refl, ◌∙◌, inl, inr, arith, to_z-of_z, to_z, of_z, FitsSigned, rules}
use Rattle.std.proofs.lemmas.Result.{err_from_is_err_and}
use mir.Syntax.{w128}
use Rattle.rinex_text.specs.Reading.{body_behind}
use Rattle.rinex_text.proofs.TakeLemmas.{refuses_on}
use Rattle.rinex_obs.specs.Epochs.{satellites_from, block_from}
use Rattle.rinex_obs.specs.Reading.{wanted_of}
use Rattle.rinex_obs.specs.declared.head.Head.TheVariants.{Epoch}
use Rattle.rinex_obs.proofs.BlockLemmas.{behind_epoch, epoch_is}
use Rattle.rinex_obs.proofs.SatelliteLemmas.{same_both}
use Rattle.rinex_obs.proofs.blocks.read_block.Goals as goal

pub returns-in_err-sats-in-Epoch-clause-fault : goal.returns-in_err-sats-in-Epoch-clause-fault
returns-in_err-sats-in-Epoch-clause-fault c =
    let p = err_from_is_err_and c.from_residual.result c.from_residual.ensures.1 in
    rw (p.1, p.2, c.in-Epoch.is)
    (refuses_on (satellites_from (wanted_of c.args.places.now) c.in-Epoch.lines [] (body_behind c.args.body)) (block_from (wanted_of c.args.places.now) c.args.count (Epoch c.in-Epoch.tag c.in-Epoch.lines) (body_behind c.args.body))
    (λ refused h. inr (refused, h, refl)) _ c.in_err-sats-in-Epoch.ensures.fault)

pub overflow_cast-epoch : goal.overflow_cast-epoch
overflow_cast-epoch c = omega (arith, (behind_epoch c.args.count c.args.head c.in-Epoch.tag c.in-Epoch.lines c.in-Epoch.is c.requires).2)

pub overflow_add-epoch : goal.overflow_add-epoch
overflow_add-epoch c = omega (arith, (behind_epoch c.args.count c.args.head c.in-Epoch.tag c.in-Epoch.lines c.in-Epoch.is c.requires).2)

pub invariant_of-epoch : goal.invariant_of-epoch
invariant_of-epoch c =
    let w = behind_epoch c.args.count c.args.head c.in-Epoch.tag c.in-Epoch.lines c.in-Epoch.is c.requires in
    let fits : FitsSigned w128 c.in-Epoch.tag = search rules in
    let same : to_z w128 (of_z w128 c.in-Epoch.tag) ≡ c.in-Epoch.tag = simp to_z-of_z refl in
    record { tag_from = rw same w.0; tag_under = rw same w.1; few = c.in_ok-sats-in-Epoch.ensures.few }

pub returns-in_err-left-in-Event-clause-fault : goal.returns-in_err-left-in-Event-clause-fault
returns-in_err-left-in-Event-clause-fault c =
    let p = err_from_is_err_and c.from_residual-in_err-left-in-Event.result c.from_residual-in_err-left-in-Event.ensures.1 in
    let same = c.is_some.ensures ∙ same_both c.args.places.now.galileo in
    rw (p.1, p.2, c.in-Event.is) (inr (_, rw same at c.in_err-left-in-Event.ensures.fault, refl))

pub returns-in_ok-sats-in-Epoch-clause-block : goal.returns-in_ok-sats-in-Epoch-clause-block
returns-in_ok-sats-in-Epoch-clause-block c =
    let fits : FitsSigned w128 c.in-Epoch.tag = search rules in
    let same : to_z w128 (of_z w128 c.in-Epoch.tag) ≡ c.in-Epoch.tag = simp to_z-of_z refl in
    (c.in-Epoch.lines, rw c.in-Epoch.is (inl (c.in_ok-sats-in-Epoch.sats.items, c.in_ok-sats-in-Epoch.ensures.sats, epoch_is _ _ _ _ _ same)), c.in_ok-sats-in-Epoch.ensures.left)

pub returns-in_ok-left-in-Event-clause-block : goal.returns-in_ok-left-in-Event-clause-block
returns-in_ok-left-in-Event-clause-block c =
    let same = c.is_some.ensures ∙ same_both c.args.places.now.galileo in
    (c.in-Event.lines, rw c.in-Event.is (inl (tt, rw same at c.in_ok-left-in-Event.ensures.event, refl)), c.in_ok-left-in-Event.ensures.left)
