use Rattle.std.specs.List.{IsDistinct}
use Rattle.cover_run.proofs.making.log_shelf.Goals as goal

pub make-requires : goal.make-requires
unfolding IsDistinct
make-requires c = rw c.new.ensures.items tt
