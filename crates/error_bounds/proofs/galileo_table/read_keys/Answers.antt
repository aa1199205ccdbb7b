use Rattle.std.proofs.Common.{codes}
use Rattle.toml.specs.View.{table_view}
use Rattle.error_bounds.proofs.KeyLemmas.{span_value}
use Rattle.error_bounds.proofs.galileo_table.read_keys.Goals as goal

pub returns-clause-offset : goal.returns-clause-offset
returns-clause-offset c = span_value (codes "galileo") (codes "offset") 1000000 (table_view c.args.tree.now) c.in_ok-offset.offset c.in_ok-offset.ensures.value
