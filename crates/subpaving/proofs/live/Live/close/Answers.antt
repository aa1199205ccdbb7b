use Rattle.std.proofs.Common.{None}
use Rattle.std.proofs.lemmas.List.{length-set}
use Rattle.subpaving.proofs.GroupLemmas.{closed_grouped}
use Rattle.subpaving.proofs.LiveLemmas.{closed_boxes}
use Rattle.subpaving.proofs.live.Live.close.Goals as goal

pub invariant_of-self : goal.invariant_of-self
invariant_of-self c =
    let self = c.args.self.now in
    record {
      odd = rw (length-set self.boxes.items c.args.id None) self.odd;
      enough = rw (length-set self.boxes.items c.args.id None) self.enough;
      grouped = closed_grouped self.boxes.items self.bounds.items c.args.id self.grouped;
    }

pub returns : goal.returns
returns c = closed_boxes c.args.self.now.boxes.items c.args.id
