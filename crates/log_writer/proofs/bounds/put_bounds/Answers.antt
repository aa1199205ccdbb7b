use Rattle.std.proofs.lemmas.Result.{err_from_is_err_and}
use Rattle.log_writer.proofs.AlongLemmas.{wrote_behind, wrote_front}
use Rattle.log_writer.proofs.bounds.put_bounds.Goals as goal

pub returns-in_err-put_axes-clause-written : goal.returns-in_err-put_axes-clause-written
returns-in_err-put_axes-clause-written g c =
    let p = err_from_is_err_and c.from_residual.result c.from_residual.ensures.1 in
    rw (p.1, p.2) (record {
      axes = _;
      are_axes = c.axes-axes.ensures;
      left = _;
      wrote = wrote_front _ _ _ _ _ _ _ _ _ _ (rw c.all-left.ensures.hull at c.in_err-put_axes.ensures.written);
    })

pub returns-clause-written : goal.returns-clause-written
returns-clause-written g c = record {
  axes = _;
  are_axes = c.axes-axes.ensures;
  left = _;
  wrote = wrote_behind _ _ _ _ _ _ _ _ _ _ _ _ c.put_each.result (rw c.all-left.ensures.hull at c.in_ok-put_axes.ensures.written) c.put_each.ensures.written;
}
