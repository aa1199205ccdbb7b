use Rattle.std.proofs.Common.{◌^◌, lit≤}
use Rattle.grid_model.proofs.ProductLemmas.{larger}
use Rattle.gnss_model.proofs.spares.err_spare.Goals as goal

pub delay_spread-requires : goal.delay_spread-requires
delay_spread-requires c = record {
  low = λ s e. larger (10 ^ 7) (10 ^ 8) _ (lit≤ tt) (c.requires.zenith.low s e);
  high = λ s e. larger (10 ^ 7) (10 ^ 8) _ (lit≤ tt) (c.requires.zenith.high s e);
}
