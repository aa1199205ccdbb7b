use Rattle.std.proofs.Common.{◌≡◌, ℕ, ◌≤◌, ◌+◌, ◌/◌, ◌^◌, arith, lit≤}
use Rattle.std.specs.Prelude.{ℤ, pos, ◌+ℤ◌, ◌-ℤ◌, ◌≤ℤ◌}
use Rattle.std.proofs.lemmas.Int.{ints}
use Rattle.grid_model.specs.Intervals.{Between, Ends}
use Rattle.grid_model.proofs.EndsLemmas.{sum_ends}
use Rattle.grid_model.proofs.ProductLemmas.{larger}
use Rattle.sat_clock.specs.ClockSizes.{base_size, relative_size, sent_reach, sent_size, width}
use Rattle.sat_clock.proofs.ClockLemmas.{sent_ends, ends_width}
use Rattle.sat_clock.proofs.clock.correction_of.Goals as goal

pub earlier-t-requires-clause-low_size : goal.earlier-t-requires-clause-low_size
earlier-t-requires-clause-low_size c =
    larger _ _ _ (lit≤ tt) (sent_ends c.args.el.now c.args.tsv.lo c.args.tsv.hi c.args.tsv.ordered c.requires.near).low

pub earlier-t-requires-clause-high_size : goal.earlier-t-requires-clause-high_size
earlier-t-requires-clause-high_size c =
    larger _ _ _ (lit≤ tt) (sent_ends c.args.el.now c.args.tsv.lo c.args.tsv.hi c.args.tsv.ordered c.requires.near).high

dt_ends : (v w : ℕ) (a b l h i j : ℤ) → i ≡ a +ℤ l → j ≡ b +ℤ h → Ends base_size v a b
    → Ends relative_size w l h → Ends (base_size + relative_size) (v + w) i j
dt_ends v w a b l h i j d e f g = rw (d, e) (sum_ends base_size v relative_size w a b l h f g)

-- a sum of members
sum_held : (a b l h i j x y z : ℤ) → i ≡ a +ℤ l → j ≡ b +ℤ h → Between a b x → Between l h y
    → z ≡ x +ℤ y → Between i j z
sum_held a b l h i j x y z d e p q f = record { from = omega (arith, ints, p.from, q.from); to = omega (arith, ints, p.to, q.to) }

pub returns-clause-holds : goal.returns-clause-holds
returns-clause-holds c n x dt t m p k =
    let base : Between c.base-base.result.lo c.base-base.result.hi k.base = rw k.base_is (c.base-base.ensures.holds k.f x k.drift k.offset k.fields p k.drift_is k.offset_is) in
    let relative = c.relativistic.ensures.holds k.f n x k.base k.about k.mean k.eccentric k.sine k.relative k.fields m p base k.about_is k.mean_is k.eccentric_is k.sine_is k.relative_is in
    let held : Between c.plus-dt.result.lo c.plus-dt.result.hi dt = sum_held c.base-base.result.lo c.base-base.result.hi c.relativistic.result.lo c.relativistic.result.hi _ _ k.base k.relative dt c.plus-dt.ensures.low c.plus-dt.ensures.high base relative k.dt_is in
    (held, c.earlier-t.ensures.holds x dt t p held k.t_is)

pub returns-clause-high_size : goal.returns-clause-high_size
returns-clause-high_size c =
    let e = dt_ends _ _ _ _ _ _ _ _ c.plus-dt.ensures.low c.plus-dt.ensures.high c.base-base.ensures.ends c.relativistic.ensures.ends in
    larger _ _ _ (lit≤ tt) e.high

pub returns-clause-narrow_dt : goal.returns-clause-narrow_dt
returns-clause-narrow_dt c h =
    let tsv = width c.args.tsv.lo c.args.tsv.hi in
    let w : tsv ≤ 8 = omega (arith, ints, c.args.tsv.ordered) in
    let base : width c.base-base.result.lo c.base-base.result.hi ≤ tsv + 8 = ends_width _ _ _ _ c.base-base.ensures.ends in
    let e = dt_ends _ _ _ _ _ _ _ _ c.plus-dt.ensures.low c.plus-dt.ensures.high c.base-base.ensures.ends c.relativistic.ensures.ends in
    omega (arith, ints, e.width)

pub returns-clause-narrow_t : goal.returns-clause-narrow_t
returns-clause-narrow_t c h =
    let tsv = width c.args.tsv.lo c.args.tsv.hi in
    let w : tsv ≤ 8 = omega (arith, ints, c.args.tsv.ordered) in
    let base : width c.base-base.result.lo c.base-base.result.hi ≤ tsv + 8 = ends_width _ _ _ _ c.base-base.ensures.ends in
    let dt = dt_ends _ _ _ _ _ _ _ _ c.plus-dt.ensures.low c.plus-dt.ensures.high c.base-base.ensures.ends c.relativistic.ensures.ends in
    let e = c.earlier-t.ensures.ends sent_size tsv (base_size + relative_size) _ (base_size + relative_size) 1
    (sent_ends c.args.el.now c.args.tsv.lo c.args.tsv.hi c.args.tsv.ordered c.requires.near) dt (lit≤ tt) (omega arith) in
    omega (arith, ints, e.width)

earlier_by : (a b : ℤ) (n : ℕ) → n ≤ sent_reach → (a -ℤ pos n) ≤ℤ b → (a -ℤ pos sent_reach) ≤ℤ b
earlier_by a b n h k = omega (arith, ints)

later_by : (a b : ℤ) (n : ℕ) → n ≤ sent_reach → b ≤ℤ (a +ℤ pos n) → b ≤ℤ (a +ℤ pos sent_reach)
later_by a b n h k = omega (arith, ints)

pub returns-clause-early : goal.returns-clause-early
returns-clause-early c =
    let dt = dt_ends _ _ _ _ _ _ _ _ c.plus-dt.ensures.low c.plus-dt.ensures.high c.base-base.ensures.ends c.relativistic.ensures.ends in
    earlier_by c.args.tsv.lo c.earlier-t.result.lo ((base_size + relative_size) / 10 ^ 4 + 1 + 2) (lit≤ tt) (c.earlier-t.ensures.early (base_size + relative_size) _ ((base_size + relative_size) / 10 ^ 4 + 1) dt (lit≤ tt))

pub returns-clause-late : goal.returns-clause-late
returns-clause-late c =
    let dt = dt_ends _ _ _ _ _ _ _ _ c.plus-dt.ensures.low c.plus-dt.ensures.high c.base-base.ensures.ends c.relativistic.ensures.ends in
    later_by c.args.tsv.hi c.earlier-t.result.hi ((base_size + relative_size) / 10 ^ 4 + 1 + 2) (lit≤ tt) (c.earlier-t.ensures.late (base_size + relative_size) _ ((base_size + relative_size) / 10 ^ 4 + 1) dt (lit≤ tt))
