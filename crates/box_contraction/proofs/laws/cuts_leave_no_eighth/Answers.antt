use Rattle.grid_model.specs.Boxes.{grid_box}
use Rattle.box_contraction.proofs.BoxLemmas.{grid_part, cuts_few, cuts_inside, none_left}
use Rattle.box_contraction.proofs.laws.cuts_leave_no_eighth.Goals as goal

pub returns-clause-few : goal.returns-clause-few
returns-clause-few c = λ grain slack test id part cuts left are. cuts_few grain slack test (record { id = id; part = grid_box part }) cuts left (grid_part part) are

pub returns-clause-inside : goal.returns-clause-inside
returns-clause-inside c = λ grain slack test id part cuts left are. cuts_inside grain slack test (record { id = id; part = grid_box part }) cuts left (grid_part part) are

pub returns-clause-none_left : goal.returns-clause-none_left
returns-clause-none_left c = λ grain slack test id part cuts left are not undecided. none_left grain slack test (record { id = id; part = grid_box part }) cuts left not undecided are
