use Rattle.std.proofs.Common.{inr, refl, sym, ap}
use Rattle.epoch_selection.specs.Searches.{epochs_left}
use Rattle.moving_tube.proofs.RootLemmas.{lies_searched, same_time}
use Rattle.grid_model.specs.Boxes.{grid_box}
use Rattle.tube_searches.proofs.RootLemmas.{epoch_time}
use Rattle.tube_searches.proofs.tube.Tube.next.Goals as goal

pub returns-in_err-root : goal.returns-in_err-root
returns-in_err-root c = rw c.from_residual-in_err-root.ensures (λ inside.
    let epoch = c.in_ok-epoch.epoch.now in
    let none = rw (same_time epoch.tag (epoch_time epoch)) at c.in_err-root.ensures.root in
    inr (epoch, epochs_left c.next.new.self, c.in_ok-epoch.ensures.first, sym (none inside)))

pub returns : goal.returns
returns c =
    let self = c.args.self.now in
    let epoch = c.in_ok-epoch.epoch.now in
    let is = rw (same_time epoch.tag (epoch_time epoch)) at c.in_ok-root.ensures.root in
    record {
      first = c.in_ok-epoch.ensures.first;
      is_root = λ inside. sym (is inside);
      lies = c.in_ok-root.ensures.lies;
      box = lies_searched (grid_box c.in_ok-root.root) (grid_box self.searches.root) self.searches.search_box c.in_ok-root.ensures.lies;
      same_search = ap grid_box c.in_ok-epoch.ensures.same_root;
      same_speed = refl;
      same_restart = refl;
      same_before = refl;
    }
