use Rattle.std.proofs.Common.{◌<◌, arith, suc, length, refl, sym, below_more, ◌∙◌}
use Rattle.std.proofs.lemmas.Bool.{false≢true}
use Rattle.std.proofs.lemmas.Option.{slice_get_read}
use Rattle.grid_model.specs.Boxes.{grid_box}
use Rattle.subpaving.specs.LiveValues.{live_value}
use Rattle.paving_log_check.proofs.RenewalLemmas.{renewal_holds, renewal_breaks, renewal_box_breaks}
use Rattle.paving_log_check.proofs.renewals.RenewalTest.renewal_fault.Goals as goal

pub returns-then-not-may_renew-clause-found : goal.returns-then-not-may_renew-clause-found
returns-then-not-may_renew-clause-found c =
    let self = c.args.self.now in
    let new = c.args.new.now in (
      0,
      renewal_box_breaks self.delays (grid_box self.root.now) (grid_box new.part) self.firsts.now self.bases.now (live_value c.args.live.now) new.rows.items c.plain_fault.result
          (λ h. false≢true (sym c.if-not-may_renew.true ∙ c.may_renew.ensures.holds.1 h)) c.plain_fault.ensures.number c.plain_fault.ensures.no_spans,
      omega (arith, c.plain_fault.ensures.line),
    )

pub returns-in-Some-clause-found : goal.returns-in-Some-clause-found
returns-in-Some-clause-found c =
    let self = c.args.self.now in
    let new = c.args.new.now in
    let i = c.loop-i.i in
    let less : i < length new.rows.items = omega (arith, c.loop-i-test.true, c.len-i-end.ensures, new.rows.ok) in
    let found = rw c.in-Some.is at c.line_fault.ensures in
    let at = slice_get_read new.rows.items (length new.rows.items) i c.index.result.now refl less c.index.ensures in (
      suc i,
      renewal_breaks self.delays (grid_box self.root.now) (grid_box new.part) self.firsts.now self.bases.now (live_value c.args.live.now) new.rows.items i c.in-Some.fault
          (c.may_renew.ensures.holds.0 c.if-not-may_renew.false) c.loop-i.invariant (c.index.result.now, at, found.0),
      omega (arith, found.1),
    )

pub loop-i-preserved : goal.loop-i-preserved
loop-i-preserved c =
    let new = c.args.new.now in
    let i = c.loop-i.i in
    let less : i < length new.rows.items = omega (arith, c.loop-i-test.true, c.len-i-end.ensures, new.rows.ok) in
    let at = slice_get_read new.rows.items (length new.rows.items) i c.index.result.now refl less c.index.ensures in
    below_more _ _ c.loop-i.invariant (c.index.result.now, at, rw c.in_default.is at c.line_fault.ensures)

pub returns-clause-found : goal.returns-clause-found
returns-clause-found c =
    let self = c.args.self.now in
    let new = c.args.new.now in
    renewal_holds self.delays (grid_box self.root.now) (grid_box new.part) self.firsts.now self.bases.now (live_value c.args.live.now) new.rows.items
    (c.may_renew.ensures.holds.0 c.if-not-may_renew.false) (λ k less. c.loop-i.invariant k (omega (arith, less, c.loop-i-test.false, c.len-i-end.ensures, new.rows.ok)))
