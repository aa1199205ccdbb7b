use Rattle.paving_log.proofs.own_tests.own_fault.Goals as goal

pub returns-in_err-k : goal.returns-in_err-k
returns-in_err-k c = rw c.from_residual.ensures (record { head = c.in_default.ensures; sats = rw c.deref.ensures.value at c.in_err-k.ensures })
