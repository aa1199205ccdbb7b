use Rattle.std.proofs.Common.{Some, subst, sym, w64}
use Rattle.std.proofs.lemmas.Int.{to_z-of_z}
use Rattle.std.proofs.lemmas.List.{length-set}
use Rattle.grid_model.specs.Boxes.{GridBox, grid_box, IsInside}
use Rattle.sat_model.specs.Fold.{IsProperCut}
use Rattle.sat_model.proofs.VerdictLemmas.{same_box}
use Rattle.subpaving.proofs.GroupLemmas.{left_lies}
use Rattle.subpaving.proofs.GroupLemmas.{cut_grouped}
use Rattle.subpaving.proofs.LiveLemmas.{cut_boxes}
use Rattle.subpaving.proofs.live.Live.cut.Goals as goal

pub invariant_of-self : goal.invariant_of-self
invariant_of-self c =
    let self = c.args.self.now in
    let rest = c.left_by.result in
    let made = rw (to_z-of_z w64 c.args.bound c.ranges.bound) at c.left_by.ensures in
    record {
      odd = rw (length-set self.boxes.items c.args.id (Some rest)) self.odd;
      enough = rw (length-set self.boxes.items c.args.id (Some rest)) self.enough;
      grouped = cut_grouped self.boxes.items self.bounds.items c.args.id c.part_of-part.result rest c.part_of-part.ensures
          (subst (λ (b : GridBox). IsInside b (grid_box c.part_of-part.result)) (sym made)
          (left_lies c.args.face c.args.bound (grid_box c.part_of-part.result)
          (let (whole, is, proper) = c.requires in subst (λ (b : GridBox). IsProperCut c.args.face c.args.bound b) (same_box _ whole (grid_box c.part_of-part.result) is c.part_of-part.ensures) proper))) self.grouped;
    }

pub returns : goal.returns
returns c =
    cut_boxes c.args.self.now.boxes.items c.args.id c.args.face c.args.bound c.part_of-part.result c.left_by.result c.part_of-part.ensures
    (rw (to_z-of_z w64 c.args.bound c.ranges.bound) at c.left_by.ensures)
