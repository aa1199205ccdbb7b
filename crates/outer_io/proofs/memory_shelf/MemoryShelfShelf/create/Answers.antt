use Rattle.std.proofs.Common.{◌∙◌, Some, ap}
use Rattle.outer_io.specs.declared.marks.Mark.{Mark}
use Rattle.outer_io.specs.Marks.{told_of}
use Rattle.outer_io.proofs.Marking.{told-created}
use Rattle.outer_io.proofs.memory_shelf.MemoryShelfShelf.create.Goals as goal

pub returns-clause-created : goal.returns-clause-created
returns-clause-created c =
    let piece = c.args.self.now.piece in
    let fails = c.args.self.now.failing.numbers.items in
    (λ i. Some (told_of piece ((c.next_fails-fails.ensures.same i).items) (c.create_log.ensures i) (c.put-2.ensures i)))
    ∙ ap Some (told-created piece fails c.args.self.now.store c.args.self.now.marks c.args.slot c.at_start.result c.args.name.now
    (c.is_log.ensures.same c.if-not-is_log.false) (ap (λ (m : Mark). m.file) c.at_start.ensures) (ap (λ (m : Mark). m.from) c.at_start.ensures))
