use Rattle.std.proofs.Common.{subst}
use Rattle.gnss_model.specs.declared.satellites.Signal.{Signal}
use Rattle.gnss_model.specs.declared.systems.System.{System}
use Rattle.usable_sats.specs.Answers.{IsReading}
use Rattle.usable_sats.proofs.judging.wanted_codes.Goals as goal

pub returns : goal.returns
returns c = subst (λ (u : System × Signal). IsReading u.0 u.1 c.args.seen.now c.read_codes.result) c.use_of-system.ensures c.read_codes.ensures
