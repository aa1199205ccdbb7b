use Rattle.std.proofs.Common.{◌≡◌, arith, inr, refl, sym, ◌∙◌, length, rules}
use Rattle.std.proofs.lemmas.Bool.{false≢true}
use Rattle.zone_guard.proofs.TextLemmas.{read_bad, read_pushed, read_all, taken_twice, none_left_of}
use Rattle.zone_guard.proofs.text.zones_in.Goals as goal

pub returns-in_default-zone_of-clause-fault : goal.returns-in_default-zone_of-clause-fault
returns-in_default-zone_of-clause-fault c =
    inr (
      c.zones.number,
      refl,
      read_bad c.args.text.now c.zones.zones.items c.zones.number c.zones.left.now c.in-Some.here.now c.in-Some.behind.now c.zones.invariant.read c.in-Some.ensures.found
          (λ z new. c.in_default-zone_of.ensures.none z new.fits new.spelled),
    )

pub returns-then-is_taken-clause-fault : goal.returns-then-is_taken-clause-fault
returns-then-is_taken-clause-fault c =
    let found = c.in-Some-zone_of.ensures.found in
    let taken = rw c.deref.ensures.value at (c.is_taken.ensures.0 c.if-is_taken.true) in
    inr (
      c.zones.number,
      refl,
      read_bad c.args.text.now c.zones.zones.items c.zones.number c.zones.left.now c.in-Some.here.now c.in-Some.behind.now c.zones.invariant.read c.in-Some.ensures.found
          (taken_twice c.zones.zones.items c.in-Some.here.now c.in-Some-zone_of.zone found.0 found.1 taken),
    )

pub zones-preserved : goal.zones-preserved
zones-preserved c =
    let found = c.in-Some-zone_of.ensures.found in
    let taken = rw c.deref.ensures.value at c.is_taken.ensures in
    record {
      read = read_pushed c.args.text.now c.zones.zones.items c.zones.number c.zones.left.now c.in-Some.here.now c.in-Some.behind.now c.push.new.self.items c.in-Some-zone_of.zone
          c.zones.invariant.read c.in-Some.ensures.found
          (record { fits = found.0; spelled = found.1; is_new = λ h. false≢true (sym c.if-is_taken.false ∙ taken.1 h) }) c.in_ok-push.ensures.items;
      room = omega (arith, c.zones.invariant.room, c.in-Some.ensures.shorter);
    }

pub returns-clause-value : goal.returns-clause-value
returns-clause-value c =
    let ended : length c.zones.left.now ≡ 0 = search rules in
    read_all c.args.text.now c.zones.zones.items c.zones.number c.zones.left.now c.zones.invariant.read (none_left_of c.zones.left.now ended)
