use Rattle.std.proofs.Common.{arith, length, None, refl, sym, ◌∙◌}
use Rattle.std.proofs.lemmas.Bool.{false≢true}
use Rattle.std.proofs.lemmas.List.{get_or_read_under}
use Rattle.subpaving.proofs.GroupLemmas.{closed_next, live_next}
use Rattle.subpaving.proofs.live.Live.hull_within.Goals as goal

pub places-preserved-in_default : goal.places-preserved-in_default
places-preserved-in_default c =
    let boxes = c.args.self.now.boxes.items in
    let read = get_or_read_under boxes c.places.place (length boxes) c.index.result.now None c.index.ensures (omega (arith, c.places.invariant.0, c.places-test.true)) refl in
    (c.places.invariant.0, closed_next c.args.whole.now c.places.hull boxes c.args.from c.places.place c.places.invariant.1 (sym read ∙ c.in_default.is))

pub returns-then-not-lies_in : goal.returns-then-not-lies_in
returns-then-not-lies_in c =
    let boxes = c.args.self.now.boxes.items in
    let read = get_or_read_under boxes c.places.place (length boxes) c.index.result.now None c.index.ensures (omega (arith, c.places.invariant.0, c.places-test.true)) refl in
    (c.places.place, c.in-Some.part, sym read ∙ c.in-Some.is, λ h. false≢true (sym c.if-not-lies_in.true ∙ c.lies_in.ensures.1 h))

pub places-preserved : goal.places-preserved
places-preserved c =
    let boxes = c.args.self.now.boxes.items in
    let read = get_or_read_under boxes c.places.place (length boxes) c.index.result.now None c.index.ensures (omega (arith, c.places.invariant.0, c.places-test.true)) refl in (
      c.places.invariant.0,
      live_next c.args.whole.now c.in-Some.part c.joined.result c.places.hull boxes c.args.from c.places.place c.places.invariant.1
          (sym read ∙ c.in-Some.is) (c.lies_in.ensures.0 c.if-not-lies_in.false) c.joined.ensures.wider c.joined.ensures.inside,
    )

pub returns : goal.returns
returns c = λ id low less. c.places.invariant.1 id low (omega (arith, less, c.places-test.false))
