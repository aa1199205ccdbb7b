use Rattle.std.proofs.Common.{◌≡◌, ◌∷◌, ◌++◌, [], length, rules, arith}
use Rattle.std.proofs.lemmas.Result.{err_from_is_err_and}
use Rattle.zone_guard.specs.Text.{lines}
use Rattle.zone_guard.specs.Watched.{form_lines}
use Rattle.zone_guard.specs.WatchLeads.{Leads}
use Rattle.zone_guard.specs.WatchValues.{watch_names, form_value}
use Rattle.zone_guard.proofs.TextLemmas.{none_left_of}
use Rattle.zone_guard.proofs.WatchLemmas.{listed_more, listed_all, told_mapped as told_by}
use Rattle.zone_guard.proofs.watching.watches_in.Goals as goal

pub returns-in_err-watch-clause-fault : goal.returns-in_err-watch-clause-fault
returns-in_err-watch-clause-fault c =
    let p = err_from_is_err_and c.from_residual.result c.from_residual.ensures.1 in
    let fault = rw c.deref.ensures.value at c.in_err-watch.ensures.fault in
    rw (p.1, p.2) (told_by _ _ _ (λ k fails. c.watches.invariant.read.fails k fails) fault)

pub watches-preserved : goal.watches-preserved
watches-preserved c =
    let value : Leads (watch_names c.watches.watches.items) 0 c.watches.number (lines c.watches.left.now) (form_lines c.in_ok-watch.watch.name.bytes (form_value c.in_ok-watch.watch.form))
    (watch_names c.watches.watches.items ++ c.in_ok-watch.watch.name.bytes ∷ []) 0 c.in_ok-watch.after (lines c.in_ok-watch.behind.now)
    = rw c.deref.ensures.value at c.in_ok-watch.ensures.value in
    record {
      read = listed_more c.args.text.now c.watches.watches.items c.push.new.self.items c.watches.number c.watches.left.now c.in_ok-watch.behind.now c.in_ok-watch.watch c.in_ok-watch.after
          c.watches.invariant.read c.in_ok-push.ensures.items value;
      room = omega (arith, c.watches.invariant.room, c.in_ok-watch.ensures.room);
    }

pub returns-clause-value : goal.returns-clause-value
returns-clause-value c =
    let ended : length c.watches.left.now ≡ 0 = search rules in
    listed_all c.args.text.now c.watches.watches.items c.watches.number c.watches.left.now c.watches.invariant.read (none_left_of c.watches.left.now ended)
