use Rattle.std.proofs.Common.{◌≡◌, sym, subst, to_z, of_z, arith}
use mir.Syntax.{w128}
use Rattle.std.proofs.lemmas.Int.{ints}
use Rattle.log_tokens.specs.Fields.{IsTime}
use Rattle.paving_log.proofs.FitLemmas.{few_fit}
use Rattle.paving_log.proofs.read.few_block.Goals as goal

pub returns-clause-fits : goal.returns-clause-fits
returns-clause-fits c =
    let h = c.args.opening.header in
    let time = c.requires.header.ps in
    let same : to_z w128 (of_z w128 h.ps) ≡ h.ps = omega (arith, ints, time.0, time.1) in
    let sats = few_fit c.args.form c.args.lines c.in_ok-sats.left c.in_ok-sats.sats.items c.in_ok-sats.next c.in_ok-sats.ensures.taken in
    record {
      header = record { index = c.requires.header.index; ps = subst IsTime (sym same) time; n = c.requires.header.n };
      sats = sats.0;
      at_most = c.in_ok-sats.ensures.at_most;
      body = sats.1;
    }
