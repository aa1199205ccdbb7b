use Rattle.epoch_rows.proofs.SpareLemmas.{err_spare_le}
use Rattle.epoch_rows.proofs.lines.err_room_over.Goals as goal

pub returns-clause-most : goal.returns-clause-most
returns-clause-most c = err_spare_le c.args.root.now c.args.delays c.requires
