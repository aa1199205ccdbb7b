use Rattle.std.proofs.Common.{◌≡◌, ◌<◌, ◌≤◌, refl, true, false, nat_lt}
use Rattle.std.specs.Prelude.{pos}
use Rattle.std.proofs.lemmas.Bool.{lt-ltb, le-ltb}
use Rattle.grid_model.specs.Boxes.{GridBox}
use Rattle.grid_model.specs.Lengths.{longest_length}
use Rattle.relaxed_meet.specs.TestValues.{test_value}
use Rattle.paving.specs.Paved.{long_side, grain_for}
use Rattle.paving.proofs.trees.work_on_box.Goals as goal

grain_of_long : (part : GridBox) → long_side < longest_length part → grain_for part ≡ pos 65536
grain_of_long part more = let e : nat_lt long_side (longest_length part) ≡ true = lt-ltb long_side (longest_length part) more in rw e refl

grain_of_short : (part : GridBox) → longest_length part ≤ long_side → grain_for part ≡ pos 1
grain_of_short part no_more = let e : nat_lt long_side (longest_length part) ≡ false = le-ltb long_side (longest_length part) no_more in rw e refl

pub work_on-requires-clause-tree : goal.work_on-requires-clause-tree
work_on-requires-clause-tree c = c.coarse_of.ensures (test_value c.args.test.now) c.requires.trees

pub work_on-requires-else-longest-gt-LONG_SIDE-clause-tree : goal.work_on-requires-else-longest-gt-LONG_SIDE-clause-tree
work_on-requires-else-longest-gt-LONG_SIDE-clause-tree c = c.exact_of.ensures (test_value c.args.test.now) c.requires.trees
