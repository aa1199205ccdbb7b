use Rattle.std.proofs.Common.{◌≡◌, ◌+◌, ◌/◌, arith, get_or, length, ap, None, ◌∙◌}
use Rattle.grid_model.specs.declared.boxes.Box3.{Box3}
use Rattle.subpaving.proofs.GroupLemmas.{held_part, high_lies, low_lies, split_kept}
use Rattle.subpaving.proofs.LiveLemmas.{split_boxes}
use Rattle.subpaving.proofs.live.Live.split.Goals as goal

pub invariant_of-self : goal.invariant_of-self
invariant_of-self c =
    let before = c.widen-2.new.self in
    let same = c.in_err-extend_from_slice.ensures.items in
    record { odd = rw same before.odd; enough = rw same before.enough; grouped = rw same before.grouped }

pub invariant_of-self-2 : goal.invariant_of-self-2
invariant_of-self-2 c =
    let before = c.widen-2.new.self in
    let boxes = before.boxes.items in
    let bounds = before.bounds.items in
    let part : Box3 = c.part_of-part.result in
    let low : Box3 = c.halves.result.0 in
    let high : Box3 = c.halves.result.1 in
    let same = c.widen-2.ensures.same ∙ c.widen.ensures.same in
    let place : length boxes ≡ c.len-place.result = omega (arith, ap length same, c.len-place.ensures, c.args.self.now.boxes.ok) in
    let wide = c.widen-2.ensures.wider (c.len-place.result / 512) part c.in_ok-widen.ensures.holds in
    let low_held = held_part (get_or bounds (length boxes / 512) None) low part (rw place wide) (low_lies c.args.axis part low c.halves.ensures.low) in
    let high_held = held_part (get_or bounds ((length boxes + 1) / 512) None) high part (rw place c.in_ok-widen-2.ensures.holds) (high_lies c.args.axis part high c.halves.ensures.high) in
    let kept = split_kept boxes c.extend_from_slice.new.self.items bounds c.args.id low high
    c.in_ok-extend_from_slice.ensures.items before.odd (rw place c.in_ok-widen-2.ensures.there) before.grouped low_held high_held in
    record { odd = kept.0; enough = kept.1; grouped = kept.2 }

pub returns-clause-ok : goal.returns-clause-ok
returns-clause-ok c =
    let same = c.widen-2.ensures.same ∙ c.widen.ensures.same in
    split_boxes c.args.self.now.boxes.items c.extend_from_slice.new.self.items c.args.id c.args.axis c.part_of-part.result c.halves.result.0 c.halves.result.1
    c.part_of-part.ensures (rw same at c.in_ok-extend_from_slice.ensures.items) c.halves.ensures.low c.halves.ensures.high
