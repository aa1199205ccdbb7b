use Rattle.std.proofs.Common.{◌+◌, ◌*◌, lit≤}
use Rattle.std.specs.Prelude.{pos, ◌*ℤ◌}
use Rattle.grid_model.proofs.EndsLemmas.{product_ends}
use Rattle.grid_model.proofs.SpreadLemmas.{products_fit}
use Rattle.elevation_mapping.proofs.Spreads.{one_times}
use Rattle.fix_interval.proofs.NearLemmas.{near_itself}
use Rattle.elevation_mapping.proofs.elevation.product.Goals as goal

pub times_over-requires-clause-sizes : goal.times_over-requires-clause-sizes
times_over-requires-clause-sizes c = products_fit _ _ _ _ _ _ _ _ _ (lit≤ tt) c.requires.a_size c.requires.b_size

pub returns-clause-holds : goal.returns-clause-holds
returns-clause-holds c x y p q = c.times_over.ensures.holds x y (x *ℤ y) p q (near_itself (x *ℤ y))

pub returns-clause-ends : goal.returns-clause-ends
returns-clause-ends c m v n w e f =
    product_ends m v n w (m * n) (m * w + n * v) _ _ _ _ (pos 1) _ _ e f (record { lt = tt }) (one_times (m * n)) (one_times (m * w + n * v)) c.times_over.result.ordered c.times_over.ensures.tight
