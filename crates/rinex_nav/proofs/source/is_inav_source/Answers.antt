use Rattle.std.proofs.Common.{ℕ, ◌≡◌, ◌⊎◌, ◌/◌, ◌%◌, subst}
use Rattle.rinex_nav.proofs.SourceLemmas.{whole_one}
use Rattle.rinex_nav.proofs.source.is_inav_source.Goals as goal

pub returns : goal.returns
returns c = (
  λ t. let bits = c.has_inav_bits.ensures.0 t in record { value = c.in-Some.value; value_is = c.in-Some.ensures.value; orbit = bits.0; clock = bits.1; no_fnav = bits.2; no_other = bits.3 },
  λ f. c.has_inav_bits.ensures.1 (subst (λ (v : ℕ). ((v % 2 ≡ 1) ⊎ (v / 4 % 2 ≡ 1)) × (v / 512 % 2 ≡ 1) × (v / 2 % 2 ≡ 0) × (v / 256 % 2 ≡ 0)) (whole_one c.args.source.now f.value c.in-Some.value f.value_is c.in-Some.ensures.value) (f.orbit, f.clock, f.no_fnav, f.no_other)),
)
