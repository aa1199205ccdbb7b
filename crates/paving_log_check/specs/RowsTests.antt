-- What a test by the rows in use is, without what it remembers.
use Rattle.sat_model.specs.BoxTests.{BoxTest}
use Rattle.relaxed_meet.specs.TestValues.{test_value}
use Rattle.paving_log_check.specs.declared.rows_test.RowsTest.{RowsTest}
use Rattle.paving_log_check.specs.declared.rows_test.RowsTest.TheVariants.{Enough, Few}

abbrev pub rows_test_value : RowsTest → BoxTest
rows_test_value (Enough test) = test_value test
rows_test_value (Few few) = record { rows = few.rows.now; q = few.q; pairs = few.pairs }
