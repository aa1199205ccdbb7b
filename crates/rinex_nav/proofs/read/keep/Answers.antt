use Rattle.std.proofs.Common.{◌≡◌, ◌∙◌, length}
use Rattle.rinex_nav.proofs.IndexLemmas.{index_more}
use Rattle.rinex_nav.proofs.read.keep.Goals as goal

pub returns-in_ok-push-clause-index : goal.returns-in_ok-push-clause-index
returns-in_ok-push-clause-index c = λ is.
    let place : c.len.result ≡ length c.args.records.now.items = c.len.ensures ∙ c.args.records.now.ok.0 in
    index_more c.args.places.now c.add_place.new.places _ _ c.in-Some.record _ is place c.in_ok-push.ensures.items c.in_ok-add_place.ensures.listed
