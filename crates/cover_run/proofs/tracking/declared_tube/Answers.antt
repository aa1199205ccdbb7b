use Rattle.std.proofs.Common.{List, ap}
use Rattle.epoch_selection.specs.Selections.{selected}
use Rattle.grid_model.specs.Boxes.{grid_box}
use Rattle.rinex_obs.specs.declared.obs.ObsEpoch.{ObsEpoch}
use Rattle.moving_tube.specs.Endings.{before_value}
use Rattle.tube_searches.specs.Tubes.{TubeValue}
use Rattle.cover_run.proofs.tracking.declared_tube.Goals as goal

pub returns-clause-declared : goal.returns-clause-declared
returns-clause-declared c = record {
  search = c.root.ensures.value;
  speed = c.declared_speed.ensures.speed;
}

pub returns-clause-value : goal.returns-clause-value
returns-clause-value c =
    ap (λ (epochs : List ObsEpoch). let t : TubeValue = record {
      epochs = selected c.args.chosen epochs;
      search = grid_box c.root.result;
      speed = c.declared_speed.result;
      restart = c.args.inputs.now.settings.restart;
      before = before_value c.args.inputs.now.after;
    } in t) c.deref.ensures.value
