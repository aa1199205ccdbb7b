use Rattle.std.proofs.Common.{◌*◌, lit≤}
use Rattle.grid_model.specs.Angles.{unit}
use Rattle.gnss_model.specs.RecordBounds.{angle_swing_bound, radius_swing_bound}
use Rattle.fix_interval.proofs.ProductEnds.{amount_of, spread}
use Rattle.broadcast_orbit.specs.OrbitSizes.{twice_amount, twice_width}
use Rattle.broadcast_orbit.proofs.Chains.{field_ends}
use Rattle.broadcast_orbit.proofs.latitude.swings.Goals as goal

pub returns-clause-latitude_amount : goal.returns-clause-latitude_amount
returns-clause-latitude_amount c =
    let s = field_ends angle_swing_bound c.args.el.now.cus c.of_wide.result c.of_wide.ensures.low c.of_wide.ensures.high c.args.el.now.cus_within in
    let d = field_ends angle_swing_bound c.args.el.now.cuc c.of_wide-2.result c.of_wide-2.ensures.low c.of_wide-2.ensures.high c.args.el.now.cuc_within in
    amount_of _ _ _ _ (c.sum_of_products.ensures.ends _ _ _ _ (spread angle_swing_bound 1 twice_amount (2 * twice_amount) 180000000000001 unit _ _ s c.requires.sine (lit≤ tt) (lit≤ tt)) (spread angle_swing_bound 1 twice_amount (2 * twice_amount) 180000000000001 unit _ _ d c.requires.cosine (lit≤ tt) (lit≤ tt)))

pub returns-clause-radius_amount : goal.returns-clause-radius_amount
returns-clause-radius_amount c =
    let s = field_ends radius_swing_bound c.args.el.now.crs c.of_wide-3.result c.of_wide-3.ensures.low c.of_wide-3.ensures.high c.args.el.now.crs_within in
    let d = field_ends radius_swing_bound c.args.el.now.crc c.of_wide-4.result c.of_wide-4.ensures.low c.of_wide-4.ensures.high c.args.el.now.crc_within in
    amount_of _ _ _ _ (c.sum_of_products-2.ensures.ends _ _ _ _ (spread radius_swing_bound 1 twice_amount (2 * twice_amount) 90000000001 unit _ _ s c.requires.sine (lit≤ tt) (lit≤ tt)) (spread radius_swing_bound 1 twice_amount (2 * twice_amount) 90000000001 unit _ _ d c.requires.cosine (lit≤ tt) (lit≤ tt)))

pub returns-clause-inclination_amount : goal.returns-clause-inclination_amount
returns-clause-inclination_amount c =
    let s = field_ends angle_swing_bound c.args.el.now.cis c.of_wide-5.result c.of_wide-5.ensures.low c.of_wide-5.ensures.high c.args.el.now.cis_within in
    let d = field_ends angle_swing_bound c.args.el.now.cic c.of_wide-6.result c.of_wide-6.ensures.low c.of_wide-6.ensures.high c.args.el.now.cic_within in
    amount_of _ _ _ _ (c.sum_of_products-3.ensures.ends _ _ _ _ (spread angle_swing_bound 1 twice_amount (2 * twice_amount) 180000000000001 unit _ _ s c.requires.sine (lit≤ tt) (lit≤ tt)) (spread angle_swing_bound 1 twice_amount (2 * twice_amount) 180000000000001 unit _ _ d c.requires.cosine (lit≤ tt) (lit≤ tt)))

pub returns-clause-narrow : goal.returns-clause-narrow
returns-clause-narrow c t =
    let us = field_ends angle_swing_bound c.args.el.now.cus c.of_wide.result c.of_wide.ensures.low c.of_wide.ensures.high c.args.el.now.cus_within in
    let uc = field_ends angle_swing_bound c.args.el.now.cuc c.of_wide-2.result c.of_wide-2.ensures.low c.of_wide-2.ensures.high c.args.el.now.cuc_within in
    let rs = field_ends radius_swing_bound c.args.el.now.crs c.of_wide-3.result c.of_wide-3.ensures.low c.of_wide-3.ensures.high c.args.el.now.crs_within in
    let rc = field_ends radius_swing_bound c.args.el.now.crc c.of_wide-4.result c.of_wide-4.ensures.low c.of_wide-4.ensures.high c.args.el.now.crc_within in
    let is = field_ends angle_swing_bound c.args.el.now.cis c.of_wide-5.result c.of_wide-5.ensures.low c.of_wide-5.ensures.high c.args.el.now.cis_within in
    let ic = field_ends angle_swing_bound c.args.el.now.cic c.of_wide-6.result c.of_wide-6.ensures.low c.of_wide-6.ensures.high c.args.el.now.cic_within in (
      c.sum_of_products.ensures.ends _ _ _ _ (spread angle_swing_bound 1 twice_amount twice_width 180000000000001 45 _ _ us t.sine (lit≤ tt) (lit≤ tt)) (spread angle_swing_bound 1 twice_amount twice_width 180000000000001 45 _ _ uc t.cosine (lit≤ tt) (lit≤ tt)),
      c.sum_of_products-2.ensures.ends _ _ _ _ (spread radius_swing_bound 1 twice_amount twice_width 90000000001 19 _ _ rs t.sine (lit≤ tt) (lit≤ tt)) (spread radius_swing_bound 1 twice_amount twice_width 90000000001 19 _ _ rc t.cosine (lit≤ tt) (lit≤ tt)),
      c.sum_of_products-3.ensures.ends _ _ _ _ (spread angle_swing_bound 1 twice_amount twice_width 180000000000001 45 _ _ is t.sine (lit≤ tt) (lit≤ tt)) (spread angle_swing_bound 1 twice_amount twice_width 180000000000001 45 _ _ ic t.cosine (lit≤ tt) (lit≤ tt)),
    )
