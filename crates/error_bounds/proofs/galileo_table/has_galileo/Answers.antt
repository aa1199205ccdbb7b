use Rattle.std.proofs.Common.{is_some, ap, ◌∙◌, codes}
use Rattle.toml.proofs.Views.{table_get}
use Rattle.error_bounds.proofs.KeyLemmas.{some_mapped}
use Rattle.error_bounds.proofs.galileo_table.has_galileo.Goals as goal

pub returns : goal.returns
returns c =
    let found = table_get c.get.result (codes "galileo") c.args.tree.now.entries c.get.ensures.value in
    c.is_some.ensures ∙ (some_mapped _ c.get.result ∙ ap is_some found)
