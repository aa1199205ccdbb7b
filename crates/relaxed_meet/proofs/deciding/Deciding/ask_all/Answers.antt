use Rattle.relaxed_meet.proofs.deciding.Deciding.ask_all.Goals as goal

pub returns : goal.returns
returns c = rw (c.deref.ensures.0, c.spans_over-spans.ensures, c.from.ensures) at c.test.ensures
