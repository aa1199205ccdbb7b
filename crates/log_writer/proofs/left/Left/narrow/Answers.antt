use Rattle.std.proofs.Common.{sym, ◌∙◌}
use Rattle.subpaving.proofs.BoxLemmas.{same_coordinates}
use Rattle.log_writer.proofs.left.Left.narrow.Goals as goal

pub returns-then-eq-clause-hull : goal.returns-then-eq-clause-hull
returns-then-eq-clause-hull c =
    sym (same_coordinates c.box_under-hull.result c.args.self.now.hull (sym c.eq.ensures ∙ c.if-eq.true)) ∙ c.box_under-hull.ensures
