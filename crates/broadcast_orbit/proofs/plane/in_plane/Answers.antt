use Rattle.std.proofs.Common.{lit≤}
use Rattle.grid_model.proofs.EndsLemmas.{wider_ends}
use Rattle.fix_interval.proofs.ProductEnds.{spread_by, amount_of, spread}
use Rattle.broadcast_orbit.specs.OrbitSizes.{radius_amount, radius_width, latitude_amount, latitude_width}
use Rattle.broadcast_orbit.proofs.plane.in_plane.Goals as goal

pub product-requires-clause-b_size : goal.product-requires-clause-b_size
product-requires-clause-b_size c = wider_ends latitude_amount _ _ _ _ _ (lit≤ tt) (lit≤ tt) c.requires.at_size.cosine

pub product-requires-2-clause-b_size : goal.product-requires-2-clause-b_size
product-requires-2-clause-b_size c = wider_ends latitude_amount _ _ _ _ _ (lit≤ tt) (lit≤ tt) c.requires.at_size.sine

pub returns-clause-holds : goal.returns-clause-holds
returns-clause-holds c f g dr d s r x y F p q h P =
    let a = c.radius-radius.ensures.holds P.axis g dr r (c.axis.ensures.holds f.root_a P.axis F.root_a_is P.axis_is) p q P.radius_is in
    (c.product.ensures.holds r d x a h.cosine P.x_is, c.product-2.ensures.holds r s y a h.sine P.y_is)

pub returns-clause-x_amount : goal.returns-clause-x_amount
returns-clause-x_amount c = amount_of _ _ _ _ (c.product.ensures.ends _ _ (spread_by radius_amount latitude_amount _ _ c.radius-radius.ensures.amount c.requires.at_size.cosine 174350448000038 (lit≤ tt)))

pub returns-clause-y_amount : goal.returns-clause-y_amount
returns-clause-y_amount c = amount_of _ _ _ _ (c.product-2.ensures.ends _ _ (spread_by radius_amount latitude_amount _ _ c.radius-radius.ensures.amount c.requires.at_size.sine 174350448000038 (lit≤ tt)))

pub returns-clause-narrow : goal.returns-clause-narrow
returns-clause-narrow c p q h =
    let r = c.radius-radius.ensures.narrow p q in (
      c.product.ensures.ends _ _ (spread radius_amount radius_width latitude_amount latitude_width 174350448000038 206 _ _ r h.cosine (lit≤ tt) (lit≤ tt)),
      c.product-2.ensures.ends _ _ (spread radius_amount radius_width latitude_amount latitude_width 174350448000038 206 _ _ r h.sine (lit≤ tt) (lit≤ tt)),
    )
