-- What a test is, without what it remembers.
use Rattle.sat_model.specs.BoxTests.{BoxTest}
use Rattle.relaxed_meet.specs.declared.box_test.BoxTest as code

abbrev pub test_value : code.BoxTest → BoxTest
test_value test = record { rows = test.rows.now; q = test.q; pairs = test.pairs }
