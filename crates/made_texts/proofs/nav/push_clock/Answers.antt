use Rattle.std.proofs.Common.{append_assoc, refl}
use Rattle.made_texts.specs.NavText.{clock_text}
use Rattle.made_texts.proofs.nav.push_clock.Goals as goal

pub returns : goal.returns
unfolding clock_text
returns c = rw (c.in_ok-push-2.ensures.items, c.in_ok-push_field-3.ensures, c.in_ok-push_field-2.ensures, c.in_ok-push_field.ensures, c.in_ok-extend_from_slice.ensures.items, c.in_ok-push_digits.ensures, c.in_ok-push.ensures.items, c.from.ensures) (simp append_assoc refl)
