use Rattle.std.proofs.Common.{ℕ, ◌<◌, arith, length, subst, ◌∙◌}
use Rattle.std.proofs.Math.ListN.{length-set}
use Rattle.grid_model.specs.Boxes.{grid_box}
use Rattle.paving.proofs.GivenLemmas.{given_more}
use Rattle.log_writer.proofs.last_renewal.rows_anew.Goals as goal

pub loop-i-preserved : goal.loop-i-preserved
loop-i-preserved g c =
    let inv = c.loop-i.invariant in
    let less : c.loop-i.i < length c.loop-i.rows = omega (arith, c.loop-i-test.true, inv.room, c.requires.few) in
    let maker = g.M.Renewals.maker c.args.maker.now in
    record {
      room = length-set c.loop-i.rows c.loop-i.i c.row_in_place.result ∙ inv.room;
      gives = given_more maker (grid_box c.args.part.now) c.loop-i.rows c.row_in_place.result c.loop-i.i less inv.gives
          (subst (λ (n : ℕ). maker.gives n (grid_box c.args.part.now) c.row_in_place.result) (omega (arith, less, inv.room)) c.row_in_place.ensures);
    }
