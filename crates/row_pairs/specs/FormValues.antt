-- A form as plain numbers.
use Rattle.row_pairs.specs.declared.forms.Form.{Form}
use Rattle.sat_model.specs.Pairs.{FormValue}

abbrev pub form_value : Form → FormValue
form_value f = record { x = f.x; y = f.y; z = f.z; upper = f.upper; lower = f.lower }
