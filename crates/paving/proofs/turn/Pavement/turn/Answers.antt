use Rattle.std.proofs.Common.{arith, refl, sym, subst, map}
use Rattle.grid_model.specs.Boxes.{GridBox}
use Rattle.box_contraction.specs.Adding.{step_value}
use Rattle.paving.specs.Renewing.{AllInside}
use Rattle.paving.proofs.StandingLemmas.{hand, may_open, waiting_then, then_inside, box_turned}
use Rattle.paving.proofs.turn.Pavement.turn.Goals as goal

pub returns-in_err-next : goal.returns-in_err-next
returns-in_err-next g c = rw c.from_residual.ensures (record { turn = λ paving s. c.in_err-next.ensures.taken paving.waiting s.queued })

pub open-requires-clause-can : goal.open-requires-clause-can
open-requires-clause-can g c =
    let (paving, s) = c.requires.stands in
    let (front, own_is) = c.work_on_next-last.ensures.last in
    may_open c.args.self.now paving s c.take_next.new.self.lists c.in_ok-next.next c.in_ok-next.ensures.taken
    front (map step_value c.work_on_next-last.new.steps.items) (step_value c.work_on_next-last.result) own_is c.work_on_next-last.ensures.steps

pub renew-requires-clause-inside : goal.renew-requires-clause-inside
renew-requires-clause-inside g c active =
    let (paving, s) = c.requires.stands in
    let (front, own_is) = c.work_on_next-last.ensures.last in
    let h = hand c.args.self.now paving s c.take_next.new.self.lists c.in_ok-next.next c.in_ok-next.ensures.taken
    front (map step_value c.work_on_next-last.new.steps.items) (step_value c.work_on_next-last.result) own_is c.work_on_next-last.ensures.steps in
    let inside = then_inside c.args.self.now paving s c.take_next.new.self.lists c.in_ok-next.next c.in_ok-next.ensures.taken
    front (map step_value c.work_on_next-last.new.steps.items) (step_value c.work_on_next-last.result) own_is c.work_on_next-last.ensures.steps in
    let waits = waiting_then c.args.self.now paving s c.take_next.new.self.lists c.in_ok-next.next c.in_ok-next.ensures.taken
    front (map step_value c.work_on_next-last.new.steps.items) (step_value c.work_on_next-last.result) own_is c.work_on_next-last.ensures.steps in
    (waits, c.open.ensures.queued h.rest h.queued, subst (λ (b : GridBox). AllInside waits b) (sym (c.requires.root active)) inside)

pub returns : goal.returns
returns g c =
    let (front, own_is) = c.work_on_next-last.ensures.last in
    record {
      turn = λ paving s. box_turned c.args.self.now paving s c.take_next.new.self.lists c.in_ok-next.next c.in_ok-next.ensures.taken
          front (map step_value c.work_on_next-last.new.steps.items) (step_value c.work_on_next-last.result) own_is c.work_on_next-last.ensures.steps
          (g.M.Renewals.maker c.args.maker.now) _ c.renew.result refl
          refl refl c.splits_behind-self.ensures
          (omega (arith, c.open.ensures.spare, c.in_ok-next.ensures.spare))
          c.open.ensures.queued c.renew.ensures.renews c.renew.ensures.used c.renew.ensures.trees c.renew.ensures.same c.work_on_next-last.ensures.few;
    }
