use Rattle.std.proofs.Common.{[], ◌∷◌, refl, arith}
use Rattle.std.proofs.lemmas.Result.{err_from_is_err_and}
use Rattle.log_writer.specs.Pieces.{piece}
use Rattle.log_writer.specs.Writing.{devices}
use Rattle.log_writer.proofs.WritingLemmas.{went_twice, written_behind, piece_lost, piece_waits, piece_sent, flushed_lost, emptied}
use Rattle.log_writer.proofs.writer.WriterPen.put.Goals as goal

pub returns-in_err-empty-clause-written : goal.returns-in_err-empty-clause-written
returns-in_err-empty-clause-written g c =
    let p = err_from_is_err_and c.from_residual.result c.from_residual.ensures.1 in
    let e = c.in_err-empty.ensures in
    rw (p.1, p.2) (piece_lost _ _ (piece c.args.line.now c.args.report.now) _ (flushed_lost (Unit {0}) _ _ _ e.sends e.same_shelf e.same_out))

pub returns-then-has_room-2-clause-written : goal.returns-then-has_room-2-clause-written
returns-then-has_room-2-clause-written g c =
    let e = c.in_ok-empty.ensures in
    let k = c.gather-then-has_room-2.ensures in
    went_twice _ _ _ [] (piece c.args.line.now c.args.report.now ∷ [])
    (emptied _ _ c.in_ok-empty.field-0 e.sends e.same_shelf e.same_out e.lines e.reports e.left)
    (piece_waits _ _ c.args.line.now c.args.report.now
    (λ i. devices (g.H.Shelf.state (k.shelf i).now) (g.O.Sink.state (k.out i).now))
    (λ i. (k.shelf i).ghost_name) (λ i. (k.out i).ghost_name) k.lines k.reports (omega (arith, k.left, e.left, c.if-self-length.false)))

pub returns-clause-written : goal.returns-clause-written
returns-clause-written g c =
    let e = c.in_ok-empty.ensures in
    written_behind _ _ _ [] (piece c.args.line.now c.args.report.now ∷ []) c.send.result
    (emptied _ _ c.in_ok-empty.field-0 e.sends e.same_shelf e.same_out e.lines e.reports e.left)
    (piece_sent _ _ c.args.line.now c.args.report.now _ c.send.result e.lines e.reports (omega (arith, e.left, c.if-self-length.false)) c.send.ensures.sends refl refl e.lines e.reports refl)
