use Rattle.station_rows.proofs.SizeLemmas.{difference_small}
use Rattle.station_rows.proofs.sizes.differences_are_small.Goals as goal

pub returns : goal.returns
returns c view p values plausible near ground difference = difference_small view p values plausible near ground difference
