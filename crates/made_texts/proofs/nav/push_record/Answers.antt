use Rattle.std.proofs.Common.{append_assoc, refl}
use Rattle.made_texts.specs.NavText.{record_text}
use Rattle.made_texts.proofs.nav.push_record.Goals as goal

pub returns : goal.returns
unfolding record_text
returns c = rw (c.in_ok-push_further-7.ensures, c.in_ok-push_further-6.ensures, c.in_ok-push_further-5.ensures, c.in_ok-push_further-4.ensures, c.in_ok-push_further-3.ensures, c.in_ok-push_further-2.ensures, c.in_ok-push_further.ensures, c.in_ok-push_clock.ensures) (simp append_assoc refl)
