use Rattle.std.proofs.Common.{rules, refl, None, FitsSigned}
use Rattle.std.specs.Int.{w128}
use Rattle.std.proofs.lemmas.Int.{to_z-of_z}
use Rattle.usable_sats.proofs.NearestLemmas.{nearest_within, nearest_fit}
use Rattle.usable_sats.specs.Usability.{sighting_by}
use Rattle.usable_sats.proofs.choice.choose.Goals as goal

pub at-requires : goal.at-requires
at-requires c =
    nearest_within (sighting_by None c.args.nav.now c.args.settings.now c.args.epoch.now.tag c.args.seen.now) c.in-Some.nearest (c.in-Some.ensures None)

pub returns-in-Ok : goal.returns-in-Ok
returns-in-Ok c =
    let fits : FitsSigned w128 c.in-Some.nearest.age = search rules in
    λ galileo. simp to_z-of_z
    (nearest_fit (sighting_by galileo c.args.nav.now c.args.settings.now c.args.epoch.now.tag c.args.seen.now) c.in-Some.nearest c.at.result.now c.in-Ok.elements (c.in-Some.ensures galileo) c.at.ensures (c.in-Ok.ensures.inside.0 refl) c.in-Ok.ensures.elements)
