use Rattle.std.proofs.Common.{ℕ, List, refl, sym, ◌∙◌}
use Rattle.std.proofs.lemmas.Bool.{false≢true}
use Rattle.zone_guard.specs.declared.watch.Watch.{Watch}
use Rattle.zone_guard.proofs.NameLemmas.{more_left, found_here, none_left}
use Rattle.zone_guard.proofs.names.is_name_taken.Goals as goal

name_in : Watch → List ℕ
name_in x = x.name.bytes

pub loop-watch-init : goal.loop-watch-init
loop-watch-init c = (λ h. h, λ h. h)

pub loop-watch-preserved : goal.loop-watch-preserved
unfolding name_in
loop-watch-preserved c = more_left name_in c.args.watches.now c.args.name.now.bytes c.loop-watch.watch-index c.watch-item.result c.loop-watch-test.true c.watch-item.is
    (λ same. false≢true (sym c.if-is_same.false ∙ c.is_same.ensures.1 same)) c.loop-watch.invariant

pub returns-then-is_same : goal.returns-then-is_same
unfolding name_in
returns-then-is_same c = (
  λ h. found_here name_in c.args.watches.now c.args.name.now.bytes c.loop-watch.watch-index c.watch-item.result c.loop-watch-test.true c.watch-item.is (c.is_same.ensures.0 c.if-is_same.true) c.loop-watch.invariant,
  λ h. refl,
)

pub returns : goal.returns
unfolding name_in
returns c = (λ h. absurd cc, λ h. absurd (none_left name_in c.args.watches.now c.args.name.now.bytes c.loop-watch.watch-index c.loop-watch-test.false c.loop-watch.invariant h))
