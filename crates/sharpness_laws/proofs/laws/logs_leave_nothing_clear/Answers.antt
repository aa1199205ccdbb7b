use Rattle.grid_model.specs.Boxes.{grid_box}
use Rattle.box_contraction.proofs.BoxLemmas.{grid_part}
use Rattle.sharpness_laws.proofs.LogLemmas.{log_clear, begun_clear}
use Rattle.sharpness_laws.proofs.laws.logs_leave_nothing_clear.Goals as goal

pub returns-clause-whole : goal.returns-clause-whole
returns-clause-whole g c = λ source renews directions rules root epochs blocks box distinct solved.
    log_clear (g.S.RowSource.meaning source) (g.met.S.RowSource.sound source) renews directions rules (grid_box root) box (grid_part root) epochs blocks distinct solved

pub returns-clause-begun : goal.returns-clause-begun
returns-clause-begun g c = λ source renews directions rules left fault limit bytes said first distinct begun.
    begun_clear (g.S.RowSource.meaning source) (g.met.S.RowSource.sound source) renews directions rules left first distinct limit bytes said fault begun
