use Rattle.std.proofs.Common.{◌*◌, ◌^◌, ◌%◌, ◌≡◌, ◌-◌, ◌+◌, ◌<◌, List, Option, Some, get_or, set, sym, ap, subst, ◌∙◌, arith}
use Rattle.std.proofs.lemmas.Nat.{one_shl}
use Rattle.std.proofs.Math.ListN.{length-set}
use Rattle.box_pool.specs.declared.item.Node.{Node}
use Rattle.box_pool.specs.Places.{IsFilled}
use Rattle.box_pool.specs.Chains.{node, node_at, lists_from, IsLinked}
use Rattle.box_pool.proofs.ChainLemmas.{write, filled_set, first_spare, spare_there, end_filled, pushed_first, pushed_behind}
use Rattle.box_pool.proofs.MaskLemmas.{mask_more, mask_same, mask_room}
use Rattle.box_pool.proofs.PoolLemmas.{block_kept}
use Rattle.box_pool.proofs.pool.Pool.push.Goals as goal

pub fill-self-inside-requires-clause-inside : goal.fill-self-inside-requires-clause-inside
fill-self-inside-requires-clause-inside c =
    let p = c.self.inside in let spare : p.spare ≡ c.args.self.now.spare = ap (λ v. v.spare) c.self.view_is in
    (first_spare p.cells.slots p.firsts p.lasts p.counts p.free p.spare p.used p.nodes c.self.invariant.1 (c.self.told.0 ∙ sym c.self.told.2) (omega (arith, spare, c.requires.room)) c.self.invariant.0.length).0

pub fill-self-inside-requires-clause-filled : goal.fill-self-inside-requires-clause-filled
fill-self-inside-requires-clause-filled c =
    let p = c.self.inside in let spare : p.spare ≡ c.args.self.now.spare = ap (λ v. v.spare) c.self.view_is in
    (first_spare p.cells.slots p.firsts p.lasts p.counts p.free p.spare p.used p.nodes c.self.invariant.1 (c.self.told.0 ∙ sym c.self.told.2) (omega (arith, spare, c.requires.room)) c.self.invariant.0.length).1

pub relink-requires-clause-filled : goal.relink-requires-clause-filled
relink-requires-clause-filled c =
    let p = c.self.inside in let k = c.self.invariant in
    let last = end_filled p.cells.slots p.firsts p.lasts p.counts p.free p.spare p.used p.nodes k.1 (c.self.told.0 ∙ sym c.self.told.2) c.args.bucket c.if-count-eq0.false in
    subst (λ (slots : List (Option Node)). IsFilled slots (get_or p.lasts c.args.bucket 0)) (sym c.fill-self-inside.ensures.slots)
    let spare : p.spare ≡ c.args.self.now.spare = ap (λ v. v.spare) c.self.view_is in
    let room : 0 < p.spare = omega (arith, spare, c.requires.room) in
    let inside = (first_spare p.cells.slots p.firsts p.lasts p.counts p.free p.spare p.used p.nodes k.1 (c.self.told.0 ∙ sym c.self.told.2) room k.0.length).0 in
    (filled_set p.cells.slots p.free (node c.args.item 0) (get_or p.lasts c.args.bucket 0) inside last)

pub overflow_add-self-then-count-eq0 : goal.overflow_add-self-then-count-eq0
overflow_add-self-then-count-eq0 c =
    let p = c.self.inside in let k = c.self.invariant in let bucket = c.args.bucket in
    let room = mask_room p.counts bucket (omega (arith, c.requires.bucket, k.3.1)) k.3.1 in
    let bit : (1 * 2 ^ bucket) % 2 ^ 64 ≡ 2 ^ bucket = one_shl bucket 64 (omega (arith, c.requires.bucket)) in
    record { fits = omega (arith, room, bit, k.2) }

pub invariant_of-self : goal.invariant_of-self
invariant_of-self c =
    let p = c.self.inside in let k = c.self.invariant in let bucket = c.args.bucket in
    let spare : p.spare ≡ c.args.self.now.spare = ap (λ v. v.spare) c.self.view_is in
    let room : 0 < p.spare = omega (arith, spare, c.requires.room) in
    let spare_is = spare_there p.cells.slots p.firsts p.lasts p.counts p.free p.spare p.used p.nodes k.1 (c.self.told.0 ∙ sym c.self.told.2) c.fill-self-inside.result c.max-self-inside.result room k.0.length c.fill-self-inside.ensures.behind c.max-self-inside.ensures in
    let done = pushed_first p.cells.slots p.firsts p.lasts p.counts p.free p.spare p.used p.nodes k.1 (c.self.told.0 ∙ sym c.self.told.2) bucket (omega (arith, c.requires.bucket, c.self.told.0))
    c.args.item (c.self.told.1 ∙ sym c.self.told.0) c.fill-self-inside.result c.max-self-inside.result spare_is room c.if-count-eq0.true in (
      block_kept p.base p.cells c.fill-self-inside.new.cells p.deed p.alloc p.nodes p.free (Some (node c.args.item 0)) k.0 c.fill-self-inside.ensures.at c.fill-self-inside.ensures.slots,
      subst (λ (slots : List (Option Node)). IsLinked slots (set p.firsts bucket p.free) (set p.lasts bucket p.free) (set p.counts bucket (get_or p.counts bucket 0 + 1)) c.fill-self-inside.result (p.spare - 1) c.max-self-inside.result p.nodes)
          (sym c.fill-self-inside.ensures.slots) done.0,
      let more = mask_more p.counts bucket (get_or p.counts bucket 0 + 1) (omega (arith, c.requires.bucket, c.self.told.2)) c.if-count-eq0.true (λ e. absurd (omega (arith, e))) in omega (arith, more, k.2, one_shl bucket 64 (omega (arith, c.requires.bucket))),
      (length-set p.firsts bucket p.free ∙ k.3.0, length-set p.counts bucket (get_or p.counts bucket 0 + 1) ∙ k.3.1),
    )

pub returns-then-count-eq0-clause-pushed : goal.returns-then-count-eq0-clause-pushed
returns-then-count-eq0-clause-pushed c =
    let p = c.self.inside in let k = c.self.invariant in let bucket = c.args.bucket in
    let spare : p.spare ≡ c.args.self.now.spare = ap (λ v. v.spare) c.self.view_is in
    let room : 0 < p.spare = omega (arith, spare, c.requires.room) in
    let spare_is = spare_there p.cells.slots p.firsts p.lasts p.counts p.free p.spare p.used p.nodes k.1 (c.self.told.0 ∙ sym c.self.told.2) c.fill-self-inside.result c.max-self-inside.result room k.0.length c.fill-self-inside.ensures.behind c.max-self-inside.ensures in
    let done = pushed_first p.cells.slots p.firsts p.lasts p.counts p.free p.spare p.used p.nodes k.1 (c.self.told.0 ∙ sym c.self.told.2) bucket (omega (arith, c.requires.bucket, c.self.told.0))
    c.args.item (c.self.told.1 ∙ sym c.self.told.0) c.fill-self-inside.result c.max-self-inside.result spare_is room c.if-count-eq0.true in
    let lists : lists_from p.cells.slots p.firsts p.counts ≡ c.args.self.now.lists = ap (λ v. v.lists) c.self.view_is in
    rw (← lists, c.fill-self-inside.ensures.slots) done.1

pub invariant_of-self-else-count-eq0 : goal.invariant_of-self-else-count-eq0
invariant_of-self-else-count-eq0 c =
    let p = c.self.inside in let k = c.self.invariant in let bucket = c.args.bucket in
    let spare : p.spare ≡ c.args.self.now.spare = ap (λ v. v.spare) c.self.view_is in
    let slots_1 = c.fill-self-inside.ensures.slots in
    let w = c.relink.result in let last = get_or p.lasts bucket 0 in
    let at_end : node_at (write p.cells.slots p.free c.args.item 0) last ≡ Some w = ap (λ (slots : List (Option Node)). node_at slots last) (sym slots_1) ∙ c.relink.ensures.was in
    let room : 0 < p.spare = omega (arith, spare, c.requires.room) in
    let spare_is = spare_there p.cells.slots p.firsts p.lasts p.counts p.free p.spare p.used p.nodes k.1 (c.self.told.0 ∙ sym c.self.told.2) c.fill-self-inside.result c.max-self-inside.result room k.0.length c.fill-self-inside.ensures.behind c.max-self-inside.ensures in
    let done = pushed_behind p.cells.slots p.firsts p.lasts p.counts p.free p.spare p.used p.nodes k.1 (c.self.told.0 ∙ sym c.self.told.2) bucket (omega (arith, c.requires.bucket, c.self.told.0))
    c.args.item (c.self.told.1 ∙ sym c.self.told.0) c.fill-self-inside.result c.max-self-inside.result spare_is room w at_end c.if-count-eq0.false in
    let slots_2 : c.relink.new.cells.slots ≡ set (write p.cells.slots p.free c.args.item 0) last (Some (node w.item p.free)) =
    c.relink.ensures.slots ∙ ap (λ (slots : List (Option Node)). set slots last (Some (node w.item p.free))) slots_1 in (
      block_kept p.base c.fill-self-inside.new.cells c.relink.new.cells p.deed p.alloc p.nodes last (Some (node w.item p.free))
          (block_kept p.base p.cells c.fill-self-inside.new.cells p.deed p.alloc p.nodes p.free (Some (node c.args.item 0)) k.0 c.fill-self-inside.ensures.at slots_1)
          c.relink.ensures.at c.relink.ensures.slots,
      subst (λ (slots : List (Option Node)). IsLinked slots p.firsts (set p.lasts bucket p.free) (set p.counts bucket (get_or p.counts bucket 0 + 1)) c.fill-self-inside.result (p.spare - 1) c.max-self-inside.result p.nodes) (sym slots_2) done.0,
      k.2 ∙ sym (mask_same p.counts bucket (get_or p.counts bucket 0 + 1) (omega (arith, c.requires.bucket, c.self.told.2)) c.if-count-eq0.false (λ e. absurd (omega (arith, e)))),
      (k.3.0, length-set p.counts bucket (get_or p.counts bucket 0 + 1) ∙ k.3.1),
    )

pub returns-else-count-eq0-clause-pushed : goal.returns-else-count-eq0-clause-pushed
returns-else-count-eq0-clause-pushed c =
    let p = c.self.inside in let k = c.self.invariant in let bucket = c.args.bucket in
    let spare : p.spare ≡ c.args.self.now.spare = ap (λ v. v.spare) c.self.view_is in
    let slots_1 = c.fill-self-inside.ensures.slots in
    let w = c.relink.result in let last = get_or p.lasts bucket 0 in
    let at_end : node_at (write p.cells.slots p.free c.args.item 0) last ≡ Some w = ap (λ (slots : List (Option Node)). node_at slots last) (sym slots_1) ∙ c.relink.ensures.was in
    let room : 0 < p.spare = omega (arith, spare, c.requires.room) in
    let spare_is = spare_there p.cells.slots p.firsts p.lasts p.counts p.free p.spare p.used p.nodes k.1 (c.self.told.0 ∙ sym c.self.told.2) c.fill-self-inside.result c.max-self-inside.result room k.0.length c.fill-self-inside.ensures.behind c.max-self-inside.ensures in
    let done = pushed_behind p.cells.slots p.firsts p.lasts p.counts p.free p.spare p.used p.nodes k.1 (c.self.told.0 ∙ sym c.self.told.2) bucket (omega (arith, c.requires.bucket, c.self.told.0))
    c.args.item (c.self.told.1 ∙ sym c.self.told.0) c.fill-self-inside.result c.max-self-inside.result spare_is room w at_end c.if-count-eq0.false in
    let slots_2 : c.relink.new.cells.slots ≡ set (write p.cells.slots p.free c.args.item 0) last (Some (node w.item p.free)) =
    c.relink.ensures.slots ∙ ap (λ (slots : List (Option Node)). set slots last (Some (node w.item p.free))) slots_1 in
    let lists : lists_from p.cells.slots p.firsts p.counts ≡ c.args.self.now.lists = ap (λ v. v.lists) c.self.view_is in
    rw (← lists, slots_2) done.1
