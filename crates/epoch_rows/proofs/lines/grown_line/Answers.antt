use Rattle.epoch_rows.proofs.LineLemmas.{is_small}
use Rattle.epoch_rows.proofs.lines.grown_line.Goals as goal

pub grown_row-requires-clause-small : goal.grown_row-requires-clause-small
grown_row-requires-clause-small c = is_small c.args.line.now c.in-Usable.row c.in-Usable.is c.requires.small
