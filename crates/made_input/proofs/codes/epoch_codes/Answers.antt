use Rattle.std.proofs.Common.{◌≡◌, ◌∙◌, arith, refl, sym, subst, to_z, of_z}
use Rattle.std.specs.Prelude.{ℤ}
use Rattle.std.specs.Int.{w64}
use Rattle.std.proofs.lemmas.Int.{ints}
use Rattle.made_input.specs.MadeCodes.{IsMadeCode}
use Rattle.made_input.proofs.EpochLemmas.{sats_push, one_more_sat}
use Rattle.made_input.proofs.codes.epoch_codes.Goals as goal

pub loop-number-preserved : goal.loop-number-preserved
loop-number-preserved c =
    let i = c.loop-number.invariant in
    let code = c.made_code-code.ensures in
    let cast : to_z w64 (of_z w64 c.made_code-code.result) ≡ c.made_code-code.result = omega (arith, ints, code.from, code.to) in
    let seed = c.args.receiver.now.seed in
    record {
      seed = c.below.ensures.seed ∙ i.seed;
      taken = omega (arith, c.below.ensures.taken, i.taken);
      count = one_more_sat c.loop-number.sats.items _ _ c.loop-number.number i.count c.in_ok-push.ensures.items;
      sats = sats_push seed c.args.j 1 c.loop-number.number c.loop-number.sats.items _ _ i.sats i.count refl
          (subst (λ (z : ℤ). IsMadeCode seed c.args.j c.loop-number.number z) (sym cast) code) c.in_ok-push.ensures.items;
    }
