use Rattle.std.proofs.Common.{◌*◌, ◌+◌, ◌<◌, arith, length, None, refl, sym, ◌∙◌}
use Rattle.std.proofs.lemmas.List.{get_or_read_under, length-set}
use Rattle.subpaving.proofs.GroupLemmas.{bound_grouped, bound_inside, far_enough, whole_group}
use Rattle.subpaving.proofs.live.Live.is_group_inside.Goals as goal

pub returns-then-lies_in-clause-yes : goal.returns-then-lies_in-clause-yes
returns-then-lies_in-clause-yes c =
    let self = c.args.self.now in
    let there : c.args.group < length self.bounds.items = omega (arith, c.requires, self.enough) in
    let read = get_or_read_under self.bounds.items c.args.group (length self.bounds.items) c.index.result.now None c.index.ensures there refl in
    λ t id e. bound_inside c.args.whole.now c.in-Some.bound self.boxes.items self.bounds.items c.args.group self.grouped (sym read ∙ c.in-Some.is)
    (c.lies_in.ensures.0 c.if-lies_in.true) id e

pub invariant_of-self : goal.invariant_of-self
invariant_of-self c =
    let self = c.args.self.now in
    let group = c.args.group in
    let there : group < length self.bounds.items = omega (arith, c.requires, self.enough) in
    record {
      odd = self.odd;
      enough = rw (length-set self.bounds.items group c.in-Some-hull_within.hull) self.enough;
      grouped = bound_grouped self.boxes.items self.bounds.items group c.in-Some-hull_within.hull self.grouped there
          (λ id e. (whole_group c.args.whole.now c.in-Some-hull_within.hull self.boxes.items group c.min-to.result
          (far_enough (length self.boxes.items) (group * 512 + 512) c.min-to.result (omega (arith, c.min-to.ensures, c.len.ensures, self.boxes.ok))) c.in-Some-hull_within.ensures id e).1);
    }

pub returns-clause-yes : goal.returns-clause-yes
returns-clause-yes c =
    let self = c.args.self.now in
    let group = c.args.group in
    λ t id e. (whole_group c.args.whole.now c.in-Some-hull_within.hull self.boxes.items group c.min-to.result
    (far_enough (length self.boxes.items) (group * 512 + 512) c.min-to.result (omega (arith, c.min-to.ensures, c.len.ensures, self.boxes.ok))) c.in-Some-hull_within.ensures id e).0
