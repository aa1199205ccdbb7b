use Rattle.std.proofs.Common.{rules, ◌^◌, FitsSigned, lit≤}
use Rattle.std.specs.Int.{w64}
use Rattle.std.proofs.lemmas.Int.{to_z-of_z}
use Rattle.gnss_model.specs.Delays.{delay_spare}
use Rattle.gnss_model.specs.declared.delays.Layer.TheVariants.{Troposphere, Ionosphere}
use Rattle.grid_model.proofs.ProductLemmas.{larger}
use Rattle.grid_model.specs.Boxes.{grid_box}
use Rattle.sat_rows.specs.BoundLemmas.{high_zenith, high_vertical}
use Rattle.sat_rows.proofs.DelayLemmas.{moved_holds, moved_width, moved_order, moved_small, plain_both, plain_end}
use Rattle.sat_rows.proofs.bounds.bounds_over.Goals as goal

pub delay_over-zenith-requires-clause-within : goal.delay_over-zenith-requires-clause-within
delay_over-zenith-requires-clause-within c = record {
  low = λ s e. larger (10 ^ 7) (10 ^ 8) _ (lit≤ tt) (c.requires.delays.zenith.low s e);
  high = λ s e. larger (10 ^ 7) (10 ^ 8) _ (lit≤ tt) (c.requires.delays.zenith.high s e);
}

pub delay_over-zenith-requires-clause-from_origin : goal.delay_over-zenith-requires-clause-from_origin
delay_over-zenith-requires-clause-from_origin c = high_zenith c.args.delays (grid_box c.args.root.now) c.requires.high

pub delay_over-vertical-requires-clause-from_origin : goal.delay_over-vertical-requires-clause-from_origin
delay_over-vertical-requires-clause-from_origin c = high_vertical c.args.delays (grid_box c.args.root.now) c.requires.high

pub returns-clause-holds : goal.returns-clause-holds
returns-clause-holds c p chain inside held range_is bound =
    let lo_fits : FitsSigned w64 c.args.declared.lo = search rules in
    let hi_fits : FitsSigned w64 c.args.declared.hi = search rules in
    let z = c.delay_over-zenith.ensures.holds p chain bound.zenith inside held range_is bound.zenith_is in
    let v = c.delay_over-vertical.ensures.holds p chain bound.vertical inside held range_is bound.vertical_is in
    record {
      lo = moved_holds c.args.declared.lo _ _ _ _ _ _ bound.zenith.0 bound.vertical.0 chain.lo (simp to_z-of_z at c.delayed.ensures.low) (simp to_z-of_z at c.delayed.ensures.high) bound.lo_is z.lo v.lo;
      hi = moved_holds c.args.declared.hi _ _ _ _ _ _ bound.zenith.1 bound.vertical.1 chain.hi (simp to_z-of_z at c.delayed-2.ensures.low) (simp to_z-of_z at c.delayed-2.ensures.high) bound.hi_is z.hi v.hi;
    }

pub returns-clause-low_tight : goal.returns-clause-low_tight
returns-clause-low_tight c =
    let fits : FitsSigned w64 c.args.declared.lo = search rules in
    let root = grid_box c.args.root.now in
    moved_width (delay_spare Troposphere root c.args.delays.zenith) (delay_spare Ionosphere root c.args.delays.vertical) c.args.declared.lo _ _ _ _ _ _ (simp to_z-of_z at c.delayed.ensures.low) (simp to_z-of_z at c.delayed.ensures.high) c.delay_over-zenith.ensures.low_tight c.delay_over-vertical.ensures.low_tight

pub returns-clause-low_small : goal.returns-clause-low_small
returns-clause-low_small c =
    let fits : FitsSigned w64 c.args.declared.lo = search rules in
    let z = c.delay_over-zenith.ensures.low_small (10 ^ 7) c.requires.delays.zenith in
    let v = c.delay_over-vertical.ensures.low_small (10 ^ 8) c.requires.delays.vertical in
    record {
      lo = moved_small c.args.declared.lo _ _ _ (simp to_z-of_z at c.delayed.ensures.low) c.requires.small.lo z.lo v.lo;
      hi = moved_small c.args.declared.lo _ _ _ (simp to_z-of_z at c.delayed.ensures.high) c.requires.small.lo z.hi v.hi;
    }

pub returns-clause-low_plain : goal.returns-clause-low_plain
returns-clause-low_plain c plain =
    let fits : FitsSigned w64 c.args.declared.lo = search rules in
    let none = plain_both c.args.delays.zenith c.args.delays.vertical plain in
    let z = c.delay_over-zenith.ensures.low_plain none.0 in
    let v = c.delay_over-vertical.ensures.low_plain none.1 in (
      plain_end c.args.declared.lo _ _ _ (simp to_z-of_z at c.delayed.ensures.low) z.0 v.0,
      plain_end c.args.declared.lo _ _ _ (simp to_z-of_z at c.delayed.ensures.high) z.1 v.1,
    )

pub returns-clause-high_tight : goal.returns-clause-high_tight
returns-clause-high_tight c =
    let fits : FitsSigned w64 c.args.declared.hi = search rules in
    let root = grid_box c.args.root.now in
    moved_width (delay_spare Troposphere root c.args.delays.zenith) (delay_spare Ionosphere root c.args.delays.vertical) c.args.declared.hi _ _ _ _ _ _ (simp to_z-of_z at c.delayed-2.ensures.low) (simp to_z-of_z at c.delayed-2.ensures.high) c.delay_over-zenith.ensures.high_tight c.delay_over-vertical.ensures.high_tight

pub returns-clause-high_small : goal.returns-clause-high_small
returns-clause-high_small c =
    let fits : FitsSigned w64 c.args.declared.hi = search rules in
    let z = c.delay_over-zenith.ensures.high_small (10 ^ 7) c.requires.delays.zenith in
    let v = c.delay_over-vertical.ensures.high_small (10 ^ 8) c.requires.delays.vertical in
    record {
      lo = moved_small c.args.declared.hi _ _ _ (simp to_z-of_z at c.delayed-2.ensures.low) c.requires.small.hi z.lo v.lo;
      hi = moved_small c.args.declared.hi _ _ _ (simp to_z-of_z at c.delayed-2.ensures.high) c.requires.small.hi z.hi v.hi;
    }

pub returns-clause-high_plain : goal.returns-clause-high_plain
returns-clause-high_plain c plain =
    let fits : FitsSigned w64 c.args.declared.hi = search rules in
    let none = plain_both c.args.delays.zenith c.args.delays.vertical plain in
    let z = c.delay_over-zenith.ensures.high_plain none.0 in
    let v = c.delay_over-vertical.ensures.high_plain none.1 in (
      plain_end c.args.declared.hi _ _ _ (simp to_z-of_z at c.delayed-2.ensures.low) z.0 v.0,
      plain_end c.args.declared.hi _ _ _ (simp to_z-of_z at c.delayed-2.ensures.high) z.1 v.1,
    )

pub returns-clause-order : goal.returns-clause-order
returns-clause-order c =
    let lo_fits : FitsSigned w64 c.args.declared.lo = search rules in
    let hi_fits : FitsSigned w64 c.args.declared.hi = search rules in
    moved_order c.args.declared.lo c.args.declared.hi _ _ _ _ _ _ (simp to_z-of_z at c.delayed.ensures.low) (simp to_z-of_z at c.delayed-2.ensures.high) c.args.declared.ordered c.delay_over-zenith.ensures.order c.delay_over-vertical.ensures.order

pub delayed-requires-clause-zenith_size : goal.delayed-requires-clause-zenith_size
delayed-requires-clause-zenith_size c = c.delay_over-zenith.ensures.low_small (10 ^ 7) c.requires.delays.zenith

pub delayed-requires-clause-vertical_size : goal.delayed-requires-clause-vertical_size
delayed-requires-clause-vertical_size c = c.delay_over-vertical.ensures.low_small (10 ^ 8) c.requires.delays.vertical

pub delayed-requires-2-clause-zenith_size : goal.delayed-requires-2-clause-zenith_size
delayed-requires-2-clause-zenith_size c = c.delay_over-zenith.ensures.high_small (10 ^ 7) c.requires.delays.zenith

pub delayed-requires-2-clause-vertical_size : goal.delayed-requires-2-clause-vertical_size
delayed-requires-2-clause-vertical_size c = c.delay_over-vertical.ensures.high_small (10 ^ 8) c.requires.delays.vertical
