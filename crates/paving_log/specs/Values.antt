-- The plain value of a log.
use Rattle.std.specs.Prelude.{map, Option, None, Some}
use Rattle.grid_model.specs.Boxes.{grid_box}
use Rattle.sat_model.specs.Bounds.{BoundValue}
use Rattle.sat_model.specs.Logs.{Block, LogValue}
use Rattle.sat_model.specs.Logs.{Body as BodyValue}
use Rattle.step_lines.specs.Steps.{steps_of}
use Rattle.paving_log.specs.declared.log.Body.{Body}
use Rattle.paving_log.specs.declared.log.Bound.{Bound}
use Rattle.paving_log.specs.declared.log.Log.{Log}
use Rattle.paving_log.specs.declared.log.LogEpoch.{LogEpoch}
use Rattle.paving_log.specs.Renewing.{events_from}

abbrev pub bound_value : Bound → BoundValue
bound_value bound = record { half = bound.half; sums = bound.sums.items }

abbrev pub body_value : Body → BodyValue
body_value body = record {
  root = grid_box body.root;
  events = events_from 0 (steps_of body.steps) body.renewals.items;
  done = body.done;
  bounds = map bound_value body.bounds.items;
}

abbrev pub body_option : Option Body → Option BodyValue
body_option None = None
body_option (Some body) = Some (body_value body)

abbrev pub block_of : LogEpoch → Block
block_of epoch = record {
  line = epoch.line;
  index = epoch.index;
  ps = epoch.ps;
  n = epoch.n;
  sats = epoch.sats.items;
  body = body_option epoch.body;
}

abbrev pub log_value : Log → LogValue
log_value log = record {
  version = log.version;
  rules = log.rules;
  blocks = map block_of log.epochs.items;
}
