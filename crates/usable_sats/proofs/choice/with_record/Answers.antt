use Rattle.usable_sats.proofs.ChoiceLemmas.{stays, yields}
use Rattle.usable_sats.proofs.choice.with_record.Goals as goal
use Rattle.std.proofs.lemmas.Bool.{both_ways as true_false}

pub returns-then-is_better : goal.returns-then-is_better
returns-then-is_better c = λ galileo records f. stays galileo c.args.settings.now c.args.epoch.now.tag c.args.seen.now records c.args.one.now _ _ f c.alone-later.ensures (c.is_better.ensures.0 c.if-is_better.true)

pub returns-else-is_better : goal.returns-else-is_better
returns-else-is_better c = λ galileo records f. yields galileo c.args.settings.now c.args.epoch.now.tag c.args.seen.now records c.args.one.now _ _ c.requires f c.alone-later.ensures (λ better. true_false c.is_better.result c.if-is_better.false (c.is_better.ensures.1 better))
