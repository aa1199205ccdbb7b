use Rattle.std.proofs.Common.{◌≡◌, [], true, subst}
use Rattle.clap.specs.Faults.{fault_of, is_simple_and_free}
use Rattle.clap.specs.Simple.{App, HasMatchesOf}
use Rattle.command_words.specs.Seen.{texts}
use Rattle.command_words.proofs.LevelLemmas.{simple_and_free}
use Rattle.command_words.proofs.matches.matches_of.Goals as goal

pub returns-in-Ok : goal.returns-in-Ok
returns-in-Ok c =
    let words = texts c.args.words.now in let app = c.in_ok-command.ensures.app in (
      subst (λ (a : App). is_simple_and_free a ≡ true → fault_of a words ≡ []) app c.in-Ok.ensures.kinds simple_and_free,
      subst (λ (a : App). HasMatchesOf a words c.in-Ok.matches) app c.in-Ok.ensures.matches,
    )
