use Rattle.std.proofs.Common.{◌≡◌, ◌-◌, get_or, length, arith, subst, to_z, of_z, w64, refl}
use Rattle.std.specs.Prelude.{pos}
use Rattle.std.proofs.lemmas.Int.{ints}
use Rattle.relaxed_meet.specs.Kept.{LiesBetween}
use Rattle.relaxed_meet.proofs.BetweenLemmas.{lies_here, least_here, none_between, one_apart}
use Rattle.relaxed_meet.proofs.hull.least_between.Goals as goal

pub returns-then-lows-rank : goal.returns-then-lows-rank
returns-then-lows-rank c =
    let read : get_or c.args.lows.now (length c.args.lows.now - 1 - c.loop-passed.passed) (pos 0)
    ≡ to_z w64 (of_z w64 (get_or c.args.lows.now (length c.args.lows.now - 1 - c.loop-passed.passed) (pos 0))) = omega (arith, ints) in (
      subst (LiesBetween c.args.lows.now c.args.highs.now) read
          (lies_here c.args.lows.now c.args.highs.now c.loop-passed.passed c.loop-passed-test.true (omega (arith, ints, c.if-lows-rank.true))),
      λ b l. omega (arith, ints, least_here c.args.lows.now c.args.highs.now c.loop-passed.passed b c.requires.falling c.loop-passed.invariant.apart c.loop-passed-test.true l),
    )

pub loop-passed-preserved : goal.loop-passed-preserved
loop-passed-preserved c = record {
  last = refl;
  apart = one_apart c.args.lows.now c.args.highs.now c.loop-passed.passed c.loop-passed.invariant.apart (omega (arith, ints, c.if-lows-rank.false));
}

pub returns : goal.returns
returns c = λ b l. none_between c.args.lows.now c.args.highs.now c.loop-passed.passed b c.loop-passed.invariant.apart l (omega arith)
