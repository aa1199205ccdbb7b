use Rattle.made_input.proofs.DrawLemmas.{one_more, draw_is}
use Rattle.made_input.proofs.generator.Generator.below.Goals as goal

pub invariant_of-self : goal.invariant_of-self
invariant_of-self c = record { state_is = one_more _ _ _ _ c.args.self.now.state_is c.next_state-state.ensures }

pub returns-clause-draw : goal.returns-clause-draw
returns-clause-draw c = draw_is _ _ c.args.n _ _ c.args.self.now.state_is c.next_state-state.ensures
