use Rattle.std.proofs.Common.{codes, ap, ◌∙◌, arith}
use Rattle.std.proofs.lemmas.Int.{ints}
use Rattle.std.specs.Prelude.{ℤ}
use Rattle.sat_model.specs.Relaxed.{ends}
use Rattle.toml.specs.View.{table_view}
use Rattle.error_bounds.specs.Sizes.{IsDeclared}
use Rattle.error_bounds.specs.Texts.{add}
use Rattle.error_bounds.proofs.KeyLemmas.{bound_value, optional_span, none_of_six}
use Rattle.error_bounds.proofs.tables.read_bounds.Goals as goal

pub returns-clause-common : goal.returns-clause-common
returns-clause-common c = record {
  receiver = ends c.in_ok-receiver.receiver;
  is_receiver = bound_value (codes "receiver") (table_view c.args.tree.now) c.in_ok-receiver.receiver c.in_ok-receiver.ensures.value;
  orbit_clock = ends c.in_ok-orbit_clock.orbit_clock;
  is_orbit_clock = bound_value (codes "orbit_clock") (table_view c.args.tree.now) c.in_ok-orbit_clock.orbit_clock c.in_ok-orbit_clock.ensures.value;
  ionosphere = ends c.in_ok-ionosphere.ionosphere;
  is_ionosphere = bound_value (codes "ionosphere") (table_view c.args.tree.now) c.in_ok-ionosphere.ionosphere c.in_ok-ionosphere.ensures.value;
  troposphere = ends c.in_ok-troposphere.troposphere;
  is_troposphere = bound_value (codes "troposphere") (table_view c.args.tree.now) c.in_ok-troposphere.troposphere c.in_ok-troposphere.ensures.value;
  sum = c.sum-common-3.ensures.value
      ∙ ap (λ (e : ℤ × ℤ). add e (ends c.in_ok-troposphere.troposphere))
      (c.sum-common-2.ensures.value ∙ ap (λ (e : ℤ × ℤ). add e (ends c.in_ok-ionosphere.ionosphere)) c.sum-common.ensures.value);
}

pub sum-common-requires-clause-a_within : goal.sum-common-requires-clause-a_within
sum-common-requires-clause-a_within c =
    let within : IsDeclared c.in_ok-receiver.receiver = c.in_ok-receiver.ensures.allowed in
    record {
      lo = record { low = omega (arith, ints, within.lo); high = omega (arith, ints, within.lo) };
      hi = record { low = omega (arith, ints, within.hi); high = omega (arith, ints, within.hi) };
    }

pub returns-clause-none : goal.returns-clause-none
returns-clause-none c =
    let tree = table_view c.args.tree.now in
    let common = returns-clause-common c in
    none_of_six _ _ _ _ _ _ _ _ _ _ _ _ _ _ _ _ _ _ common.is_receiver common.is_orbit_clock common.is_ionosphere common.is_troposphere
    (optional_span (codes "bounds") (codes "zenith") 10000 tree _ c.in_ok-zenith.ensures.value) (optional_span (codes "bounds") (codes "vertical") 100000 tree _ c.in_ok-vertical.ensures.value)
