-- The rows that are in use behind the last renewal. No public clause cites it.
use Rattle.std.specs.Prelude.{take, Option, None, Some}
use Rattle.std.specs.Option.{option_map}
use Rattle.grid_model.specs.Boxes.{grid_box}
use Rattle.sat_model.specs.Events.{RowsOver, rows_over}
use Rattle.log_writer.specs.declared.in_use.NewRows.{NewRows}

abbrev pub rows_value : NewRows → RowsOver
rows_value new = rows_over (grid_box new.part) (take new.count new.rows)

abbrev pub rows_option : Option NewRows → Option RowsOver
rows_option renewed = option_map rows_value renewed

-- the first ones, where none were renewed
abbrev pub used_last : RowsOver → Option RowsOver → RowsOver
used_last first None = first
used_last first (Some new) = new
