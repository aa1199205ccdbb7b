-- How far a delay straight up may spread over the largest box.
use Rattle.std.proofs.Common.{ℕ, ◌*◌, ◌^◌, ◌≤◌, arith}
use Rattle.std.proofs.lemmas.Nat.{mul-le}
use Rattle.gnss_model.specs.Delays.{spare_over}
use Rattle.gnss_model.specs.declared.delays.Layer.{Layer}
use Rattle.gnss_model.specs.declared.delays.Layer.TheVariants.{Troposphere, Ionosphere}

pub spare_most : (layer : Layer) (amount d : ℕ) → amount ≤ 10 ^ 8 → d ≤ 2 * 10 ^ 13
    → spare_over layer amount d ≤ 10 ^ 12
spare_most Troposphere amount d few short = let m = mul-le amount d (10 ^ 8) (2 * 10 ^ 13) few short in omega (arith, m)
spare_most Ionosphere amount d few short = let m = mul-le amount d (10 ^ 8) (2 * 10 ^ 13) few short in omega (arith, m)
