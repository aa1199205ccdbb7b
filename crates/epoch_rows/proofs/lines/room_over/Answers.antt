use Rattle.epoch_rows.proofs.SpareLemmas.{spare_le}
use Rattle.epoch_rows.proofs.lines.room_over.Goals as goal

pub returns-clause-most : goal.returns-clause-most
returns-clause-most c = spare_le c.args.root.now
