use Rattle.std.proofs.Common.{◌≡◌, append_assoc, append-nil, arith, refl}
use Rattle.made_texts.proofs.ObsWriting.{blanks_more}
use Rattle.made_texts.proofs.obs.+push_blanks.Goals as goal

pub returns-then-count-eq0 : goal.returns-then-count-eq0
returns-then-count-eq0 t c =
    let none : c.args.count ≡ 0 = grind arith in
    rw (none, append-nil c.args.text.now.items) refl

pub returns : goal.returns
returns t c =
    let more = blanks_more c.args.count (grind arith) in
    rw (more, c.in_ok-push_blanks.ensures, c.in_ok-push.ensures.items) (simp append_assoc refl)
