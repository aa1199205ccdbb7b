use Rattle.std.proofs.Common.{refl, sym, ◌∙◌}
use Rattle.rinex_nav.proofs.IndexLemmas.{new_listed}
use Rattle.rinex_nav.proofs.places.add_place.Goals as goal

pub returns-clause-listed : goal.returns-clause-listed
returns-clause-listed c =
    new_listed c.args.places.now c.insert.new.self c.args.sat c.args.place c.push-2.new.self (c.in_ok-push-2.ensures.items ∙ (rw c.new-list.ensures.items refl))
    (sym c.in_default.ensures.value) (λ q. c.in_ok-insert.ensures.updates.0 q ∙ (rw c.get_mut.follows.holds-at-none refl))
