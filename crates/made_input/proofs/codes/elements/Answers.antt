use Rattle.std.proofs.Common.{◌≡◌, ◌+◌, ◌-◌, subst, sym, ap, arith, lit≤}
use Rattle.rinex_nav.specs.FieldBounds.{AreInside}
use Rattle.rinex_nav.specs.Records.{Broadcast}
use Rattle.made_input.specs.MadeRecords.{made_broadcast, mean_draw}
use Rattle.made_input.proofs.BoundLemmas.{inside}
use Rattle.made_input.proofs.RangeBounds.{drawn_below}
use Rattle.made_input.proofs.RecordLemmas.{record_of}
use Rattle.made_input.proofs.codes.elements.Goals as goal

pub unwrap-requires : goal.unwrap-requires
unwrap-requires c =
    let k = c.args.k in
    let seed = c.args.receiver.now.seed in
    let numbers = record_of seed k c.args.receiver.now.nav c.at.result.now (c.from.result - 1) c.args.receiver.now.records_are c.at.ensures (omega (arith, c.from.ensures, c.requires.from)) in
    let fields : c.at.result.now.fields ≡ (made_broadcast k (mean_draw seed k)).fields = ap (λ (b : Broadcast). b.fields) numbers in
    c.elements.ensures.inside.1 (subst AreInside (sym fields) (inside k (mean_draw seed k) c.requires.to (omega (arith, drawn_below seed (2 + k) 100 (lit≤ tt)))))

pub returns : goal.returns
returns c = record {
  r = c.at.result.now;
  numbers_are = record_of c.args.receiver.now.seed c.args.k c.args.receiver.now.nav c.at.result.now (c.from.result - 1) c.args.receiver.now.records_are c.at.ensures (omega (arith, c.from.ensures, c.requires.from));
  elements = rw c.unwrap.ensures at c.elements.ensures.elements;
}
