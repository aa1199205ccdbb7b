use Rattle.std.proofs.Common.{◌/◌, ◌<◌, arith, length, Some, None, [], ◌∷◌, refl}
use Rattle.std.proofs.lemmas.List.{get_or_read_under, length-set}
use Rattle.subpaving.proofs.GroupLemmas.{pushed_or_not, set_wider, wider_grouped}
use Rattle.subpaving.proofs.live.Live.widen.Goals as goal

pub invariant_of-self : goal.invariant_of-self
invariant_of-self c =
    let self = c.args.self.now in
    let pushed = pushed_or_not _ self.bounds.items (Some c.args.part.now ∷ []) c.push.new.self.items c.push.ensures.items in
    record {
      odd = self.odd;
      enough = omega (arith, self.enough, pushed.1);
      grouped = wider_grouped self.boxes.items self.bounds.items c.push.new.self.items self.grouped pushed.0;
    }

pub invariant_of-self-else-group-len : goal.invariant_of-self-else-group-len
invariant_of-self-else-group-len c =
    let self = c.args.self.now in
    let at = c.args.id / 512 in
    let there : at < length self.bounds.items = omega (arith, c.requires, c.if-group-len.false, c.len.ensures, self.bounds.ok) in
    let read = get_or_read_under self.bounds.items at (length self.bounds.items) c.index.result.now None c.index.ensures there refl in
    let wider = set_wider self.bounds.items at c.joined.result (λ other h. c.joined.ensures.wider other (rw read h)) in
    record {
      odd = self.odd;
      enough = rw (length-set self.bounds.items at (Some c.joined.result)) self.enough;
      grouped = wider_grouped self.boxes.items self.bounds.items _ self.grouped wider;
    }

pub returns-in_ok-push-clause-wider : goal.returns-in_ok-push-clause-wider
returns-in_ok-push-clause-wider c =
    let self = c.args.self.now in
    (pushed_or_not _ self.bounds.items (Some c.args.part.now ∷ []) c.push.new.self.items c.push.ensures.items).0

pub returns-else-group-len-clause-wider : goal.returns-else-group-len-clause-wider
returns-else-group-len-clause-wider c =
    let self = c.args.self.now in
    let at = c.args.id / 512 in
    let there : at < length self.bounds.items = omega (arith, c.requires, c.if-group-len.false, c.len.ensures, self.bounds.ok) in
    let read = get_or_read_under self.bounds.items at (length self.bounds.items) c.index.result.now None c.index.ensures there refl in
    set_wider self.bounds.items at c.joined.result (λ other h. c.joined.ensures.wider other (rw read h))
