use Rattle.std.proofs.Common.{sym, ap, ◌∙◌, None, below_more}
use Rattle.std.proofs.lemmas.List.{get_or-map}
use Rattle.subpaving.specs.LiveValues.{box_option}
use Rattle.subpaving.proofs.LiveLemmas.{all_none}
use Rattle.subpaving.proofs.live.Live.is_none_live.Goals as goal

pub loop-found-preserved : goal.loop-found-preserved
loop-found-preserved c = below_more _ _ c.loop-found.invariant
    (get_or-map box_option c.deref-found-items.result.now c.loop-found.found-index c.found-item.result None c.loop-found-test.true
    ∙ ap box_option (sym c.found-item.is ∙ c.in-None.is))

pub returns-clause-yes : goal.returns-clause-yes
returns-clause-yes c = λ t. all_none c.args.self.now.boxes.items c.loop-found.found-index
    (rw c.deref-found-items.ensures.value at c.loop-found.invariant) (rw c.deref-found-items.ensures.value at c.loop-found-test.false)
