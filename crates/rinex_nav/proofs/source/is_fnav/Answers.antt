use Rattle.std.proofs.Common.{ℕ, ◌≡◌, ◌/◌, ◌%◌, subst}
use Rattle.rinex_nav.proofs.SourceLemmas.{whole_one}
use Rattle.rinex_nav.proofs.source.is_fnav.Goals as goal

pub returns : goal.returns
returns c = (
  λ t. let bits = c.has_bits.ensures.0 t in record { value = c.in-Some.value; value_is = c.in-Some.ensures.value; orbit = bits.0; clock = bits.1 },
  λ f. c.has_bits.ensures.1 (subst (λ (v : ℕ). (v / 2 % 2 ≡ 1) × (v / 256 % 2 ≡ 1)) (whole_one c.args.source.now f.value c.in-Some.value f.value_is c.in-Some.ensures.value) (f.orbit, f.clock)),
)
