use Rattle.std.proofs.Common.{◌≡◌, rules, Some}
use Rattle.moving_tube.proofs.EndingLemmas.{left_inside}
use Rattle.moving_tube.proofs.endings.is_inside_of.Goals as goal

pub returns-in-Some-Some : goal.returns-in-Some-Some
returns-in-Some-Some c =
    let is : c.args.left.now ≡ Some c.in-Some-Some.field-0 = search rules in
    let has : c.in-Some-Some.field-0.part ≡ Some c.in-Some-Some.part = search rules in
    left_inside c.args.search.now c.args.left.now c.in-Some-Some.field-0 c.in-Some-Some.part c.lies_in.result
    is has c.lies_in.ensures
