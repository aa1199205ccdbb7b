use Rattle.std.proofs.Common.{None}
use Rattle.usable_sats.proofs.NearestLemmas.{none_found, found_over}
use Rattle.usable_sats.proofs.WalkLemmas.{walk_begins, place_within, walk_step, walk_ends}
use Rattle.usable_sats.proofs.fresh.nearest_fresh.Goals as goal

pub loop-place-init : goal.loop-place-init
loop-place-init c = λ galileo. walk_begins c.args.nav.now c.args.seen.now.sat _ _ c.places-place-items.ensures (none_found galileo c.args.settings.now c.args.epoch.now.tag c.args.seen.now)

pub at-requires : goal.at-requires
at-requires c =
    place_within c.args.nav.now c.args.seen.now.sat _ (found_over None c.args.settings.now c.args.epoch.now.tag c.args.seen.now _) c.places-place-items.result.now c.loop-place.place-index (c.loop-place.invariant None) c.loop-place-test.true

pub loop-place-preserved : goal.loop-place-preserved
loop-place-preserved c =
    λ galileo. walk_step c.args.nav.now c.args.seen.now.sat _ (found_over galileo c.args.settings.now c.args.epoch.now.tag c.args.seen.now _) _ c.places-place-items.result.now c.loop-place.place-index _ (c.loop-place.invariant galileo) c.loop-place-test.true c.at.ensures
    (λ front at own f. c.nearer-nearest.ensures galileo front c.args.seen.now at own f)

pub returns : goal.returns
returns c =
    λ galileo. walk_ends c.args.nav.now c.args.seen.now.sat _ (found_over galileo c.args.settings.now c.args.epoch.now.tag c.args.seen.now _) c.places-place-items.result.now c.loop-place.place-index (c.loop-place.invariant galileo) c.loop-place-test.false
