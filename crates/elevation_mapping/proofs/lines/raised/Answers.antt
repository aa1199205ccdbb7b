use Rattle.std.proofs.Common.{◌+◌, ◌*◌, ◌/◌, ◌^◌, arith, lit≤}
use Rattle.std.specs.Prelude.{pos}
use Rattle.grid_model.proofs.EndsLemmas.{wider_ends, product_ends}
use Rattle.fix_interval.proofs.ProductEnds.{amount_of}
use Rattle.gnss_model.specs.Mapping.{up_scale}
use Rattle.elevation_mapping.specs.SineSizes.{up_amount}
use Rattle.elevation_mapping.proofs.Spreads.{scale_spread, scale_ends}
use Rattle.elevation_mapping.proofs.lines.raised.Goals as goal

pub returns-clause-narrow : goal.returns-clause-narrow
returns-clause-narrow c w e = wider_ends _ up_amount (w + w / 148 + 1 + 4) (w + w / 148 + 5) _ _ (lit≤ tt) (omega arith) (product_ends (10 ^ 13) w up_scale 0 10067394967423 (w + w / 148 + 1) _ _ _ _ (pos (10 ^ 14)) _ _ e scale_ends (record { lt = tt }) (record { le = tt }) (scale_spread w) c.times_over.result.ordered c.times_over.ensures.tight)

pub returns-clause-amount : goal.returns-clause-amount
returns-clause-amount c = amount_of _ _ _ _ (returns-clause-narrow c (2 * 10 ^ 13) c.requires)
