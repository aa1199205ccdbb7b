use Rattle.std.proofs.Common.{ℕ, ◌≡◌, ◌/◌, ◌%◌, subst}
use Rattle.rinex_nav.proofs.SourceLemmas.{whole_one}
use Rattle.rinex_nav.proofs.source.are_clear.Goals as goal

pub returns : goal.returns
returns c = (
  λ t. let bits = c.has_clear_bits.ensures.0 t in record { value = c.in-Some.value; value_is = c.in-Some.ensures.value; first = bits.0; second = bits.1 },
  λ f. c.has_clear_bits.ensures.1 (subst (λ (v : ℕ). (v % 8 ≡ 0) × (v / 64 ≡ 0)) (whole_one c.args.health.now f.value c.in-Some.value f.value_is c.in-Some.ensures.value) (f.first, f.second)),
)
